-- What a run makes of no grant and of one: keys ascend, so each insert comes after those before it; a grant whose key is asked for gives
-- way, any other stands amid the inserts. Assumes nothing.
use mathlib.Core.Path.{◌≡◌, refl, ap, sym, ◌∙◌}
use mathlib.Core.Bool.{Bool, true, false, cond, not, true≢false}
use mathlib.Core.List.{List, [], ◌∷◌, ◌++◌, append_assoc, append-nil, nil≢cons, cons≢nil}
use mathlib.Core.Option.{none, some}
use Rattle.terms.specs.Bits.{Bytes, All, filter, before, same_bytes}
use Rattle.terms.specs.Records.{Grant, grant, Ask, insert, delete, ask_key}
use Rattle.terms.proofs.Tests.{and_left, and_right, is_false, same_bytes_lem, bytes_same}
use Rattle.terms.proofs.Lists.{filter_append, filter_all, filter_none, all_filter, all_map, all_always}
use Rattle.terms.proofs.Order.{before_trans, before_irrefl, before_asym, before_total}
use Rattle.meaning.specs.Tree.{with_ask, with_batch, smaller, greater}
use Rattle.meaning.specs.Calls.{ascending}
use Rattle.steps.specs.Step.{inserts, own_ask, asks_else, other_inserts}

-- each key before all that follow
abbrev pub Later : Ask → Ask → Type 0
Later a b = before (ask_key a) (ask_key b) ≡ true

abbrev pub Rising : List Ask → Type 0
Rising [] = Unit {0}
Rising (a ∷ asks) = All (Later a) asks × Rising asks

pub ascending_rising : (asks : List Ask) → ascending asks ≡ true → Rising asks
ascending_rising [] h = tt
ascending_rising (a ∷ []) h = (tt, tt)
ascending_rising (a ∷ b ∷ asks) h =
    let first : Later a b = and_left (before (ask_key a) (ask_key b)) (ascending (b ∷ asks)) h in
    let rest : Rising (b ∷ asks) = ascending_rising (b ∷ asks) (and_right (before (ask_key a) (ask_key b)) (ascending (b ∷ asks)) h) in
    ((first, all_map (Later b) (Later a) asks (λ c l. before_trans (ask_key a) (ask_key b) (ask_key c) first l) rest.0), rest)

pub rising_filter : (f : Ask → Bool) (asks : List Ask) → Rising asks → Rising (filter f asks)
rising_filter f [] s = tt
rising_filter f (a ∷ asks) s =
    elim (f a) as (λ b. Rising (cond b (a ∷ filter f asks) (filter f asks)))
    [ true ↦ (all_filter (Later a) f asks s.0, rising_filter f asks s.1) | false ↦ rising_filter f asks s.1 ]

-- grants before a key
abbrev Under : List Grant → Ask → Type 0
Under gs a = All (λ g. before g.key (ask_key a) ≡ true) gs

module _ (k : Bytes) (ys zs : List Grant) (u : All (λ g. before g.key k ≡ true) ys) where
  smaller_after : smaller k (ys ++ zs) ≡ ys ++ smaller k zs
  unfolding smaller
  smaller_after = filter_append (λ g. before g.key k) ys zs ∙ ap (◌++ filter (λ g. before g.key k) zs) (filter_all _ ys u)

  greater_after : greater k (ys ++ zs) ≡ greater k zs
  unfolding greater
  greater_after =
      filter_append (λ g. before k g.key) ys zs
      ∙ ap (◌++ filter (λ g. before k g.key) zs) (filter_none _ ys (all_map _ _ ys (λ g l. before_asym g.key k l) u))

-- what comes before all keys of a run stays in front
ask_after : (a : Ask) (ys zs : List Grant) → Under ys a → with_ask a (ys ++ zs) ≡ ys ++ with_ask a zs
ask_after (insert k x) ys zs u =
    rw (smaller_after k ys zs u, greater_after k ys zs u) (append_assoc ys (smaller k zs) (grant k x ∷ greater k zs))
ask_after (delete k) ys zs u = rw (smaller_after k ys zs u, greater_after k ys zs u) (append_assoc ys (smaller k zs) (greater k zs))

batch_after : (asks : List Ask) (ys zs : List Grant) → All (Under ys) asks → with_batch asks (ys ++ zs) ≡ ys ++ with_batch asks zs
batch_after [] ys zs u = refl
batch_after (a ∷ asks) ys zs u = ap (with_batch asks) (ask_after a ys zs u.0) ∙ batch_after asks ys (with_ask a zs) u.1

-- an ask on no grants
ask_nothing : (a : Ask) → with_ask a [] ≡ inserts (a ∷ [])
unfolding smaller greater
ask_nothing (insert k x) = refl
ask_nothing (delete k) = refl

inserts_cons : (a : Ask) (asks : List Ask) → inserts (a ∷ asks) ≡ inserts (a ∷ []) ++ inserts asks
inserts_cons (insert k x) asks = refl
inserts_cons (delete k) asks = refl

-- its insert comes before all later keys
under_later : (a : Ask) (asks : List Ask) → All (Later a) asks → All (Under (inserts (a ∷ []))) asks
under_later (insert k x) asks l = all_map (Later (insert k x)) (Under (grant k x ∷ [])) asks (λ b h. (h, tt)) l
under_later (delete k) asks l = all_always (Under []) asks (λ b. tt)

first_ask : (a : Ask) (asks : List Ask) (gs : List Grant) → All (Later a) asks →
    with_batch asks (inserts (a ∷ []) ++ gs) ≡ inserts (a ∷ []) ++ with_batch asks gs
first_ask a asks gs l = batch_after asks (inserts (a ∷ [])) gs (under_later a asks l)

-- a run with no grants there makes its inserts
pub batch_of_nothing : (asks : List Ask) → Rising asks → with_batch asks [] ≡ inserts asks
batch_of_nothing [] s = refl
batch_of_nothing (a ∷ asks) s =
    ap (with_batch asks) (ask_nothing a ∙ sym (append-nil (inserts (a ∷ []))))
    ∙ first_ask a asks [] s.0
    ∙ ap (inserts (a ∷ []) ++◌) (batch_of_nothing asks s.1)
    ∙ sym (inserts_cons a asks)

-- two keys, in order
data Compared (x y : Bytes) : Type 0 where
  less : before x y ≡ true → Compared x y
  equal : x ≡ y → Compared x y
  more : before y x ≡ true → Compared x y

compared : (x y : Bytes) → Compared x y
compared x y = go (before x y) (before y x) refl refl
  where
    go : (a b : Bool) → before x y ≡ a → before y x ≡ b → Compared x y
    go true b e f = less e
    go false true e f = more f
    go false false e f = equal (before_total x y e f)

-- an ask beside one grant, by the order of their keys
module _ (a : Ask) (g : Grant) where
  ask_before : before (ask_key a) g.key ≡ true → with_ask a (g ∷ []) ≡ inserts (a ∷ []) ++ (g ∷ [])
  unfolding smaller greater
  ask_before l = go a l
    where
      go : (a : Ask) → before (ask_key a) g.key ≡ true → with_ask a (g ∷ []) ≡ inserts (a ∷ []) ++ (g ∷ [])
      go (insert k x) l = rw (l, before_asym k g.key l)
      go (delete k) l = rw (l, before_asym k g.key l)

  ask_same : ask_key a ≡ g.key → with_ask a (g ∷ []) ≡ inserts (a ∷ [])
  unfolding smaller greater
  ask_same e = go a e
    where
      go : (a : Ask) → ask_key a ≡ g.key → with_ask a (g ∷ []) ≡ inserts (a ∷ [])
      go (insert k x) e = rw (e, is_false (before g.key g.key) (before_irrefl g.key))
      go (delete k) e = rw (e, is_false (before g.key g.key) (before_irrefl g.key))

-- no ask of the run has the key
abbrev pub Unasked : Bytes → List Ask → Type 0
Unasked k asks = All (λ a. same_bytes (ask_key a) k ≡ false) asks

differs : (x y : Bytes) → (x ≡ y → ⊥) → same_bytes x y ≡ false
differs x y f = is_false (same_bytes x y) (λ h. f (same_bytes_lem x y h))

less_differs : (x y : Bytes) → before x y ≡ true → same_bytes x y ≡ false
less_differs x y l = differs x y (λ e. before_irrefl y (rw e at l))

more_differs : (x y : Bytes) → before x y ≡ true → same_bytes y x ≡ false
more_differs x y l = differs y x (λ e. before_irrefl x (rw e at l))

later_unasked : (a : Ask) (asks : List Ask) → All (Later a) asks → Unasked (ask_key a) asks
later_unasked a asks l = all_map (Later a) _ asks (λ b h. more_differs (ask_key a) (ask_key b) h) l

pub own_none : (k : Bytes) (asks : List Ask) → own_ask k asks ≡ none → Unasked k asks
own_none k [] h = tt
own_none k (a ∷ asks) h = go (same_bytes (ask_key a) k) refl h (λ i. own_none k asks i)
  where
    go : (b : Bool) → same_bytes (ask_key a) k ≡ b → cond b (some a) (own_ask k asks) ≡ none →
        (own_ask k asks ≡ none → Unasked k asks) → Unasked k (a ∷ asks)
    go true e i f = absurd (let z : ◌≡◌ {A = Bool} true false = cc in true≢false z)
    go false e i f = (e, f i)

-- a key before that of the first ask is before all keys of the run
beyond : (a : Ask) (asks : List Ask) (k : Bytes) → before k (ask_key a) ≡ true → All (Later a) asks →
    All (λ b. before k (ask_key b) ≡ true) (a ∷ asks)
beyond a asks k l s = (l, all_map (Later a) _ asks (λ b h. before_trans k (ask_key a) (ask_key b) l h) s)

-- hs with g put amid them
pub record Amid (g : Grant) (hs ws : List Grant) : Type 0 where
  pub front : List Grant
  pub rest : List Grant
  pub others : hs ≡ front ++ rest
  pub whole : ws ≡ front ++ g ∷ rest

-- a grant whose key is not asked for stands amid the inserts
pub batch_beside : (g : Grant) (asks : List Ask) → Rising asks → Unasked g.key asks → Amid g (inserts asks) (with_batch asks (g ∷ []))
batch_beside g [] s u = record { front = []; rest = []; others = refl; whole = refl }
batch_beside g (a ∷ asks) s u = go (compared (ask_key a) g.key) (batch_beside g asks s.1 u.1)
  where
    go : Compared (ask_key a) g.key → Amid g (inserts asks) (with_batch asks (g ∷ [])) →
        Amid g (inserts (a ∷ asks)) (with_batch (a ∷ asks) (g ∷ []))
    go (less l) r = record {
      front = inserts (a ∷ []) ++ r.front;
      rest = r.rest;
      others = inserts_cons a asks ∙ ap (inserts (a ∷ []) ++◌) r.others ∙ sym (append_assoc (inserts (a ∷ [])) r.front r.rest);
      whole =
          ap (with_batch asks) (ask_before a g l)
          ∙ first_ask a asks (g ∷ []) s.0
          ∙ ap (inserts (a ∷ []) ++◌) r.whole
          ∙ sym (append_assoc (inserts (a ∷ [])) r.front (g ∷ r.rest));
    }
    go (equal e) r = absurd (true≢false (sym (bytes_same g.key) ∙ ap (λ k. same_bytes k g.key) (sym e) ∙ u.0))
    go (more l) r = record {
      front = [];
      rest = inserts (a ∷ asks);
      others = refl;
      whole =
          batch_after (a ∷ asks) (g ∷ []) [] (all_map _ (Under (g ∷ [])) (a ∷ asks) (λ b h. (h, tt)) (beyond a asks g.key l s.0))
          ∙ ap (g ∷◌) (batch_of_nothing (a ∷ asks) s);
    }

none_some : {A : Type 0} (a : Ask) → none ≡ some a → A
none_some a e = absurd (let z : ◌≡◌ {A = Bool} true false = cc in true≢false z)

unasked_own : (k : Bytes) (asks : List Ask) → Unasked k asks → own_ask k asks ≡ none
unasked_own k [] u = refl
unasked_own k (a ∷ asks) u = rw u.0 (unasked_own k asks u.1)

-- a grant whose key is asked for gives way
pub batch_over : (g : Grant) (b : Ask) (asks : List Ask) → Rising asks → own_ask g.key asks ≡ some b →
    with_batch asks (g ∷ []) ≡ with_batch asks []
batch_over g b [] s o = none_some b o
batch_over g b (a ∷ asks) s o = go (compared (ask_key a) g.key) (λ i. batch_over g b asks s.1 i)
  where
    go : Compared (ask_key a) g.key → (own_ask g.key asks ≡ some b → with_batch asks (g ∷ []) ≡ with_batch asks []) →
        with_batch (a ∷ asks) (g ∷ []) ≡ with_batch (a ∷ asks) []
    go (less l) f =
        let i : own_ask g.key asks ≡ some b =
        sym (ap (λ t. cond t (some a) (own_ask g.key asks)) (less_differs (ask_key a) g.key l)) ∙ o in
        ap (with_batch asks) (ask_before a g l)
        ∙ first_ask a asks (g ∷ []) s.0
        ∙ ap (inserts (a ∷ []) ++◌) (f i)
        ∙ sym (first_ask a asks [] s.0)
        ∙ ap (with_batch asks) (append-nil (inserts (a ∷ [])) ∙ sym (ask_nothing a))
    go (equal e) f = ap (with_batch asks) (ask_same a g e ∙ sym (ask_nothing a))
    go (more l) f =
        let far : Unasked g.key (a ∷ asks) =
        all_map _ _ (a ∷ asks) (λ c h. more_differs g.key (ask_key c) h) (beyond a asks g.key l s.0) in
        none_some b (sym (unasked_own g.key (a ∷ asks) far) ∙ o)

-- the inserts for other keys are those of the inserts that have another key
abbrev key_else : Bytes → Grant → Bool
key_else k g = not (same_bytes g.key k)

others_filter : (k : Bytes) (asks : List Ask) → other_inserts k asks ≡ filter (key_else k) (inserts asks)
others_filter k [] = refl
others_filter k (insert l x ∷ asks) = go (same_bytes l k) (others_filter k asks)
  where
    go : (b : Bool) → other_inserts k asks ≡ filter (key_else k) (inserts asks) →
        inserts (cond (not b) (insert l x ∷ filter (asks_else k) asks) (filter (asks_else k) asks))
        ≡ cond (not b) (grant l x ∷ filter (key_else k) (inserts asks)) (filter (key_else k) (inserts asks))
    go true e = e
    go false e = ap (grant l x ∷◌) e
others_filter k (delete l ∷ asks) = go (same_bytes l k) (others_filter k asks)
  where
    go : (b : Bool) → other_inserts k asks ≡ filter (key_else k) (inserts asks) →
        inserts (cond (not b) (delete l ∷ filter (asks_else k) asks) (filter (asks_else k) asks)) ≡ filter (key_else k) (inserts asks)
    go true e = e
    go false e = e

-- where nothing is asked for the key, all inserts are for other keys
pub others_all : (k : Bytes) (asks : List Ask) → Unasked k asks → other_inserts k asks ≡ inserts asks
others_all k asks u = ap inserts (filter_all (asks_else k) asks (all_map _ _ asks (λ a e. ap not e) u))

-- inserts for other keys are more than one for the key
pub others_not_own : (g h : Grant) (hs : List Grant) (asks : List Ask) → other_inserts g.key asks ≡ h ∷ hs → inserts asks ≡ g ∷ [] → ⊥
others_not_own g h hs asks e i =
    let none-else : other_inserts g.key asks ≡ [] =
    others_filter g.key asks ∙ ap (filter (key_else g.key)) i ∙ ap (λ b. cond (not b) (g ∷ []) []) (bytes_same g.key) in
    nil≢cons (sym none-else ∙ e)

pub others_some : (k : Bytes) (h : Grant) (hs : List Grant) (asks : List Ask) → other_inserts k asks ≡ h ∷ hs → inserts asks ≡ [] → ⊥
others_some k h hs asks e i = nil≢cons (sym (others_filter k asks ∙ ap (filter (key_else k)) i) ∙ e)

-- where the run asks for the key and inserts nothing else, its only insert, if any, is for the key
pub own_alone : (k : Bytes) (b : Ask) (asks : List Ask) → Rising asks → own_ask k asks ≡ some b → other_inserts k asks ≡ [] →
    (ask_key b ≡ k) × (inserts asks ≡ inserts (b ∷ []))
own_alone k b [] s o e = none_some b o
own_alone k b (a ∷ asks) s o e = go (same_bytes (ask_key a) k) refl o e (λ i j. own_alone k b asks s.1 i j)
  where
    empty : (c : Ask) (cs : List Ask) → inserts (c ∷ cs) ≡ [] → (inserts (c ∷ []) ≡ []) × (inserts cs ≡ [])
    empty (insert l x) cs h = absurd (cons≢nil h)
    empty (delete l) cs h = (refl, h)

    go : (t : Bool) → same_bytes (ask_key a) k ≡ t → cond t (some a) (own_ask k asks) ≡ some b →
        inserts (cond (not t) (a ∷ filter (asks_else k) asks) (filter (asks_else k) asks)) ≡ [] →
        (own_ask k asks ≡ some b → other_inserts k asks ≡ [] → (ask_key b ≡ k) × (inserts asks ≡ inserts (b ∷ []))) →
        (ask_key b ≡ k) × (inserts (a ∷ asks) ≡ inserts (b ∷ []))
    go true t o e f =
        let same : a ≡ b = cc in
        let key : ask_key a ≡ k = same_bytes_lem (ask_key a) k t in
        let none-else : inserts asks ≡ [] = sym (others_all k asks (rw key at (later_unasked a asks s.0))) ∙ e in (
          rw (← same) key,
          inserts_cons a asks ∙ ap (inserts (a ∷ []) ++◌) none-else ∙ append-nil (inserts (a ∷ [])) ∙ ap (λ c. inserts (c ∷ [])) same,
        )
    go false t o e f =
        let both = empty a (filter (asks_else k) asks) e in
        let rest = f o both.1 in
        (rest.0, inserts_cons a asks ∙ ap (◌++ inserts asks) both.0 ∙ rest.1)
