-- The step at a leaf in lent memory is the step of the definition, case by case. Assumes nothing.
use Prim.Native.Nat.{ℕ, ◌-◌}
use native.Mathlib.Omega.{arith}
use mathlib.Core.Path.{◌≡◌, refl, ap, ap₂, sym, ◌∙◌, subst}
use mathlib.Core.Logic.{⊎_elim}
use mathlib.Core.Bool.{Bool, true, false, true≢false, false≢true}
use mathlib.Core.List.{List, [], ◌∷◌}
use mathlib.Core.Option.{Option, none, some}
use lib.ListN.{length}
use types.Run.{OneOf}
use denote.Enum.Declared.{tag_of}
use Rattle.terms.specs.Bits.{Bytes}
use Rattle.terms.specs.Records.{Grant, grant, Ask, insert, delete}
use Rattle.hash.specs.declared.Hash.{Hash}
use Rattle.hash.specs.Hash.{hash_bytes}
use Rattle.hash.proofs.Laws.{hash_whole}
use Rattle.nodehash.specs.Node.{leaf_hash, inner_hash}
use Rattle.place.specs.declared.Place as place
use Rattle.place.specs.Place.{place_of}
use Rattle.layout.specs.Stores.{store_of}
use Rattle.batch.specs.Batch.{asks}
use Rattle.steps.specs.Step as step
use Rattle.steps.specs.Writing.{written}
use Rattle.steps.proofs.Inserts.{own_none}
use Rattle.apply_place.specs.Placing.{Stored, Changed, when_writes}
use Rattle.apply_place.specs.Reach.{Reaches}
use Rattle.apply_place.proofs.Reaching.{reaches_none}
use Rattle.apply_outcome.specs.declared.Outcome as declared
use Rattle.apply_outcome.specs.Outcomes.{Did}
use Rattle.std.specs.declared.option.Option as option
use Rattle.std.specs.Prelude.{Some, None}
use Rattle.apply_inserts.specs.declared.Grant as declared-grant
use Rattle.apply_inserts.specs.Inserts.{stays_says, stays_at, StaysAt}
use Rattle.apply_grow.specs.Growing.{Grows}
use Rattle.apply_grow.proofs.Growing.{written_nothing}
use Rattle.apply_alone.specs.declared.Own as own
use Rattle.apply_alone.specs.declared.Own.TheVariants.{Nothing, Insert, Delete}
use Rattle.apply_alone.specs.Alone.{OwnSays, Alone}
use Rattle.apply_leaf.specs.Leaf.{is_more, staying_says, AtLeaf}
use Rattle.apply_alone.specs.contracts.Own as own-type

no_more : (gs : List Grant) → is_more gs ≡ false → gs ≡ []
no_more [] e = refl
no_more (g ∷ gs) e = absurd (true≢false e)

-- an outcome with nothing below it writes nothing
written_none : (w : Bool) (new : ℕ) (o : step.Outcome) {s : Bytes} → o.fresh ≡ [] → o.retired ≡ [] → Stored s → Changed (when_writes w (written new o)) s s
written_none w new o {s} e f h =
    let n : step.outcome o.change o.node ≡ o = ap₂ (λ xs ys. record { change = o.change; node = o.node; fresh = xs; retired = ys }) (sym e) (sym f) in
    subst (λ z. Changed (when_writes w (written new z)) s s) n (written_nothing w new o.change o.node h)

-- what stays beside inserts
pub stays_none : (f : own.Own) (k x : Hash) → f ≡ Nothing → Some (record { key = k; value = x }) ≡ staying_says f k x
stays_none f k x e = rw e refl

pub stays_not : (f : own.Own) (k x : Hash) → OneOf (1 ∷ 2 ∷ []) (tag_of own-type.the_type f) → None ≡ staying_says f k x
stays_not Nothing k x o = absurd (⊎_elim (λ e. omega arith) (λ e. omega arith) o)
stays_not (Insert y) k x o = refl
stays_not Delete k x o = refl

-- by what is inserted beside it
module _ (new v : ℕ) (g : Grant) (grown : Option Grant → step.Outcome) where
  by_beside : (o : Option Ask) (gs : List Grant) → o ≡ none → is_more gs ≡ true → grown (some g) ≡ step.leaf_by leaf_hash inner_hash new v g o gs grown
  by_beside o [] e f = absurd (false≢true f)
  by_beside o (h ∷ hs) e f = rw e

  by_instead : (o : Option Ask) (gs : List Grant) (a : Ask) → o ≡ some a → is_more gs ≡ true → grown none ≡ step.leaf_by leaf_hash inner_hash new v g o gs grown
  by_instead o [] a e f = absurd (false≢true f)
  by_instead o (h ∷ hs) (insert k x) e f = rw e
  by_instead o (h ∷ hs) (delete k) e f = rw e

module _ {new : ℕ} {writes : Bool} {from : ℕ} {s : Bytes} {p : place.Place} {key : Hash} {part : Bytes} (w : AtLeaf new writes from s p key part) (value : Hash) where
  abbrev asked : Option Ask
  asked = step.own_ask (hash_bytes key) (asks part)

  abbrev others : List Grant
  others = step.other_inserts (hash_bytes key) (asks part)

  abbrev g : Grant
  g = grant (hash_bytes key) (hash_bytes value)

  stays_here : stays_at (place_of p) (some g) ≡ some g
  stays_here = rw w.begun

  grows_with : (f : own.Own) → OwnSays f asked → Grows new writes from s p (staying_says f key value) part
  grows_with Nothing o = record {
    stored = w.stored;
    starts = w.starts;
    number = w.number;
    proper = w.proper;
    run = w.run;
    stays =
        subst (λ z. StaysAt (place_of p) z (asks part)) (sym stays_here)
        ((hash_whole key, hash_whole value), w.begun, own_none (hash_bytes key) (asks part) o);
  }
  grows_with (Insert y) o = record { stored = w.stored; starts = w.starts; number = w.number; proper = w.proper; run = w.run; stays = tt }
  grows_with Delete o = record { stored = w.stored; starts = w.starts; number = w.number; proper = w.proper; run = w.run; stays = tt }

  -- the leaf stays beside inserts, or it does not
  pub may_grow : (f : own.Own) {z : option.Option declared-grant.Grant} → z ≡ staying_says f key value → OwnSays f asked → Grows new writes from s p z part
  may_grow f e o = subst (λ z. Grows new writes from s p z part) (sym e) (grows_with f o)

  module _ (v : ℕ) where
    abbrev grown : Option Grant → step.Outcome
    grown stays = step.grow leaf_hash inner_hash new (256 - p.count) (place_of p) stays (asks part)

    abbrev stepped : step.Outcome
    stepped = step.step_leaf leaf_hash inner_hash new (256 - p.count) (place_of p) v g (asks part)

    as_grown : (f : own.Own) → OwnSays f asked → is_more others ≡ true → grown (stays_at (place_of p) (stays_says (staying_says f key value))) ≡ stepped
    unfolding step.step_leaf
    as_grown Nothing o m = ap grown stays_here ∙ by_beside new v g grown asked others o m
    as_grown (Insert y) o m = by_instead new v g grown asked others (insert o.0 (hash_bytes y)) o.1 m
    as_grown Delete o m = by_instead new v g grown asked others (delete o.0) o.1 m

    pub grown_did : (f : own.Own) {z : option.Option declared-grant.Grant} {t : Bool} {s' : Bytes} {r : declared.Outcome} → z ≡ staying_says f key value → OwnSays f asked →
        t ≡ is_more others → t ≡ true → Did new writes from s s' (grown (stays_at (place_of p) (stays_says z))) r → Did new writes from s s' stepped r
    grown_did f {z} {s' = s'} {r = r} e o m t d =
        subst (λ c. Did new writes from s s' c r) (ap (λ u. grown (stays_at (place_of p) (stays_says u))) e ∙ as_grown f o (sym m ∙ t)) d

    pub alone_did : {t : Bool} {r : declared.Outcome} → t ≡ is_more others → t ≡ false → Alone new from v g asked r → Did new writes from s s stepped r
    unfolding step.step_leaf
    alone_did {r = r} m t a =
        let e = no_more others (sym m ∙ t) in
        let b = step.leaf_by leaf_hash inner_hash new v g asked [] grown in
        subst (λ gs. Did new writes from s s (step.leaf_by leaf_hash inner_hash new v g asked gs grown) r) (sym e)
        (record {
          change = a.change grown;
          node = a.node writes grown;
          reach = subst (Reaches writes from (length b.fresh) (store_of s).slots) (sym a.reach) (reaches_none writes (ap length (a.quiet grown).0) w.starts);
          bytes = written_none writes new b (a.quiet grown).0 (a.quiet grown).1 w.stored;
        })
