-- The test decides soundness: it passes exactly the sound stores. A record passes its tests exactly if it is right by itself; what a rule
-- asks of a record's children, the test asks of a record's parents. Assumes nothing.
use Prim.Native.Nat.{ℕ, ◌<◌, ◌≤◌, max}
use native.Mathlib.Omega.{arith}
use mathlib.Core.Path.{◌≡◌, refl, ap, ap₂, sym, ◌∙◌, subst}
use mathlib.Core.Logic.{◌⊎◌, inl, inr, ◌↔◌}
use mathlib.Core.Bool.{Bool, true, false, not, false≢true}
use lib.Dec.{leb}
use borrow.Author.Tests.{leb-true, leb-false}
use lib.ListN.{length, get_or}
use Rattle.terms.specs.Bits.{Bytes, Side, left, right, Place, longer}
use Rattle.terms.specs.Records.{Child, Body, leaf_body, inner_body, Record, Slot, free, spoiled, Store}
use Rattle.terms.specs.Form.{RecordForm, top32}
use mathlib.Core.List.{[]}
use mathlib.Core.Option.{some, some-injective}
use Rattle.meaning.specs.Store.{find, root_of, child_on}
use Rattle.meaning.specs.Sound.{At, Sound, most_slots, CountsAre}
use Rattle.meaning.specs.Local.{Local, Linked, missing, found, BodyFits, child_version, ends_before, counts_by}
use Rattle.local.specs.Test.{first_kept, is_same, holders, names, is_parent, link_test, record_test, slot_test, slots_test, form_test, local_test}
use Rattle.meaning.proofs.Finding.{found_at, same_record_lem, at_find}
use Rattle.meaning.proofs.Roots.{own_root}
use Rattle.local.proofs.Lifetimes.{Lifetime, Living, living_lives, lives_living, life_ends}
use Rattle.local.proofs.Standing.{linked_on}
use Rattle.local.proofs.LocalIsGlobal.{local_is_global}
use Rattle.local.proofs.Scans.{every_at, at_every}
use Rattle.local.proofs.Records.{slot_elim, each_record, record_total, one_record, record_one}
use Rattle.local.proofs.Naming.{names_eq, eq_names, parent_names, names_inner}
use Rattle.local.proofs.Parents.{Kin, named_is_summed}
use Rattle.local.proofs.Says.{Says, says, itself, equal, at_most, done, next}
use Rattle.local.proofs.InForm.{form_says}
use Rattle.local.proofs.Tests.{node_counted, counted_node, counted_once, ChildFound, BodyFound, body_says, head_says, RootApart, Covered, covered_says, counts_say_lem, life_says, Link, link_says}

module _ (leaf_hash inner_hash : Bytes → Bytes → Bytes) (st : Store) where
  -- the child on a side is linked
  abbrev LinkedOn : Side → Record → Child → Child → Type 0
  LinkedOn b q l m = Linked leaf_hash inner_hash st q (longer b q.place) (child_on b l m) (child_on (not b) l m)

  -- what its parents say of a record
  abbrev LinksOf : Record → Type 0
  LinksOf r = (j : ℕ) (q : Record) → At st j q →
      (b : Side) (l m : Child) → q.body ≡ inner_body l m → names b q r ≡ true → Link leaf_hash inner_hash st b r q l m

  -- what the tests of a record say of it
  record Passed (r : Record) : Type 0 where
    latest : r.version ≤ st.latest
    life : Lifetime st r
    once : holders r st.slots ≡ 1
    body : BodyFound st r.place r.body
    links : LinksOf r
    covered : Covered st r
    counts : CountsAre st.form r.counts (counts_by st.slots r.place r.body)

  record_says_lem : (r : Record) → Says (record_test leaf_hash inner_hash st r) (Passed r)
  unfolding record_test
  record_says_lem r =
      says (next (at_most r.version st.latest)
      (next (life_says st r)
      (next (equal (holders r st.slots) 1)
      (next (body_says st r.place r.body)
      (next (each_record st (link_test leaf_hash inner_hash st r) _ (link_says leaf_hash inner_hash st r))
      (next (covered_says st r)
      (next (counts_say_lem st r) done))))))).all
      (λ h. record {
        latest = h.0;
        life = h.1.0;
        once = h.1.1.0;
        body = h.1.1.1.0;
        links = h.1.1.1.1.0;
        covered = h.1.1.1.1.1.0;
        counts = h.1.1.1.1.1.1.0;
      })
      (λ p. (p.latest, (p.life, (p.once, (p.body, (p.links, (p.covered, (p.counts, tt))))))))

  abbrev Passing : Slot → Type 0
  Passing y = slot_test leaf_hash inner_hash st y ≡ true

  -- no slot is spoiled, and each record passes
  slots_say : Says (slots_test leaf_hash inner_hash st)
      (((i : ℕ) (x : Bytes) → i < length st.slots → get_or st.slots i free ≡ spoiled x → ⊥)
      × ((i : ℕ) (r : Record) → At st i r → Passed r))
  unfolding slots_test At
  slots_say = record {
    passed = λ h. (
      λ i x l e. false≢true (subst Passing e (every_at (slot_test leaf_hash inner_hash st) st.slots free h i l)),
      λ i r a. (record_says_lem r).passed (subst Passing a.1 (every_at (slot_test leaf_hash inner_hash st) st.slots free h i a.0)),
    );
    passes = λ f. at_every (slot_test leaf_hash inner_hash st) st.slots free (λ i l.
        slot_elim Passing (get_or st.slots i free) refl (λ x e. absurd (f.0 i x l e)) (λ r e. (record_says_lem r).passes (f.1 i r (l, e))));
  }

  -- a child outlives its parents
  outlives : ((i : ℕ) (r : Record) → At st i r → 1 ≤ r.version) → ((i : ℕ) (r : Record) → At st i r → LinksOf r) →
      (i j : ℕ) (r q : Record) → At st i r → At st j q → is_parent r q ≡ true →
      (r.version ≤ first_kept st q) × (ends_before st q ≤ ends_before st r)
  outlives version links i j r q a c h =
      let (b, n) = parent_names q r h in
      let (l, m, e) = names_inner b q r (version i r a) n in
      let k = links i r a j q c b l m e n in
      (k.begun, k.ends)

  -- from the tests to the rules
  module _ (formed : (i : ℕ) (r : Record) → At st i r → RecordForm r) (passed : (i : ℕ) (r : Record) → At st i r → Passed r) where
    passed_unique : (i j : ℕ) (r q : Record) → At st i r → At st j q → r.version ≡ q.version → r.place ≡ q.place → i ≡ j
    unfolding holders
    passed_unique i j r q a c e f =
        one_record st (is_same r) (omega (arith, (passed i r a).once)) i j r q a c
        (omega (arith, counted_node r r refl refl)) (omega (arith, counted_node r q (sym e) (sym f)))

    passed_linked : (b : Side) (j : ℕ) (q : Record) (l m : Child) → At st j q → q.body ≡ inner_body l m →
        ChildFound st (longer b q.place) (child_on b l m) → LinkedOn b q l m
    passed_linked b j q l m c e (inl z) = missing z
    passed_linked b j q l m c e (inr (r, f)) =
        let (i, a, v, p) = found_at st (child_on b l m).version (longer b q.place) r f in
        let k = (passed i r a).links j q c b l m e (eq_names b q r (v ∙ sym (ap (child_version b) e)) p) in
        found i r a p v k.hash k.begun k.ends k.paired

    passed_bodies : (j : ℕ) (q : Record) → At st j q → (o : Body) → q.body ≡ o →
        BodyFound st q.place o → BodyFits leaf_hash inner_hash st q o
    passed_bodies j q c (leaf_body k x) e h = h
    passed_bodies j q c (inner_body l m) e h = (passed_linked left j q l m c e h.0, passed_linked right j q l m c e h.1)

    passed_kin : st.oldest ≤ st.latest → Kin st
    passed_kin order = record {
      order = order;
      unique = passed_unique;
      versions = λ i r a. ((formed i r a).versioned.0, (passed i r a).latest);
      lifetimes = λ i r a. (passed i r a).life;
      roots = λ v low i j r q a c e f k l.
          elim ((passed i r a).covered.0 e j q c f) [
            | inl x ↦ passed_unique i j r q a c (sym x) (e ∙ sym f)
            | inr (inl x) ↦ absurd (omega arith)
            | inr (inr x) ↦ absurd (omega arith)
          ];
      outlives = outlives (λ i r a. (formed i r a).versioned.0) (λ i r a. (passed i r a).links);
    }

  passed_local : (1 ≤ length st.slots) × (length st.slots ≤ most_slots) → (st.oldest ≤ st.latest) × (st.latest ≤ top32) →
      ((i : ℕ) (r : Record) → At st i r → RecordForm r) →
      ((i : ℕ) (x : Bytes) → i < length st.slots → get_or st.slots i free ≡ spoiled x → ⊥) →
      ((i : ℕ) (r : Record) → At st i r → Passed r) → Local leaf_hash inner_hash st
  passed_local size header formed whole passed = record {
    size = size;
    header = header;
    whole = whole;
    formed = formed;
    unique = passed_unique formed passed;
    versions = λ i r a. ((formed i r a).versioned.0, (passed i r a).latest);
    lifetimes = λ i r a. (passed i r a).life;
    roots = λ v k i r a e l. own_root st v i r a e l (λ j q c f m.
        (passed_kin formed passed header.0).roots v k.0 j i q r c a f e (lives_living st q v k.1 m) (lives_living st r v k.1 l));
    bodies = λ i r a. passed_bodies formed passed i r a r.body refl (passed i r a).body;
    counts = λ i r a. (passed i r a).counts;
    parents = (named_is_summed st (passed_kin formed passed header.0)).1 (λ i r a. (passed i r a).covered.1);
  }

  -- from the rules to the tests
  module _ (ok : Local leaf_hash inner_hash st) where
    local_links : (i : ℕ) (r : Record) → At st i r → LinksOf r
    local_links i r a j q c b l m e n =
        go (linked_on leaf_hash inner_hash st b q l m (subst (BodyFits leaf_hash inner_hash st q) e (ok.bodies j q c)))
      where
        version : r.version ≡ (child_on b l m).version
        version = (names_eq b q r n).0 ∙ ap (child_version b) e

        go : LinkedOn b q l m → Link leaf_hash inner_hash st b r q l m
        go (missing z) = absurd (omega (arith, version, ok.versions i r a))
        go (found k x d p v h f g o) =
            subst (λ y. Link leaf_hash inner_hash st b y q l m)
            (same_record_lem st ok.unique k i x r d a (v ∙ sym version) (p ∙ sym (names_eq b q r n).1))
            (record { hash = h; begun = f; ends = g; paired = o })

    linked_found : (q : Record) (p : Place) (c d : Child) → Linked leaf_hash inner_hash st q p c d → ChildFound st p c
    linked_found q p c d (missing e) = inl e
    linked_found q p c d (found i r a e v h f g o) = inr (r, sym (ap₂ (λ w s. find w s st.slots) v e) ∙ at_find st ok.unique i r a)

    bodies_found : (q : Record) (o : Body) → BodyFits leaf_hash inner_hash st q o → BodyFound st q.place o
    bodies_found q (leaf_body k x) f = f
    bodies_found q (inner_body l m) f =
        (linked_found q (longer left q.place) l m f.0, linked_found q (longer right q.place) m l f.1)

    held_once : (i : ℕ) (r : Record) → At st i r → holders r st.slots ≡ 1
    unfolding holders
    held_once i r a =
        let most = record_one st (is_same r) (λ j q c. counted_once r q) (λ j k q x c d g h.
        let (e, f) = node_counted r q g in
        let (m, n) = node_counted r x h in
        ok.unique j k q x c d (e ∙ sym m) (f ∙ sym n)) in
        omega (arith, record_total st (is_same r) i r a, counted_node r r refl refl)

    local_root : (v : ℕ) → st.oldest ≤ v → (i : ℕ) (r : Record) → At st i r → r.place ≡ [] → Living st v r → root_of st v ≡ some r
    local_root v low i r a e k =
        let f = life_ends st r ok.header.0 (ok.versions i r a).1 (ok.lifetimes i r a) in
        ok.roots v (low, omega arith) i r a e (living_lives st r v k)

    -- two root records that live at one version are that version's root
    local_one : (v : ℕ) → st.oldest ≤ v → (i j : ℕ) (r q : Record) → At st i r → At st j q → r.place ≡ [] → q.place ≡ [] →
        Living st v r → Living st v q → r ≡ q
    local_one v low i j r q a c e f k l =
        some-injective r q (sym (local_root v low i r a e k) ∙ local_root v low j q c f l)

    -- so their lives do not meet
    local_apart : (i : ℕ) (r : Record) → At st i r → r.place ≡ [] → (j : ℕ) (q : Record) → At st j q → RootApart st r q
    local_apart i r a e j q c f = go (leb (ends_before st q) (first_kept st r)) (leb (ends_before st r) (first_kept st q)) refl refl
      where
        go : (s t : Bool) → leb (ends_before st q) (first_kept st r) ≡ s → leb (ends_before st r) (first_kept st q) ≡ t →
            (q.version ≡ r.version) ⊎ ((ends_before st q ≤ first_kept st r) ⊎ (ends_before st r ≤ first_kept st q))
        go true t x y = inr (inl (leb-true _ _ x))
        go false true x y = inr (inr (leb-true _ _ y))
        go false false x y =
            let g = life_ends st r ok.header.0 (ok.versions i r a).1 (ok.lifetimes i r a) in
            let h = life_ends st q ok.header.0 (ok.versions j q c).1 (ok.lifetimes j q c) in
            let m : max st.oldest r.version < ends_before st q = leb-false (ends_before st q) (first_kept st r) x in
            let n : max st.oldest q.version < ends_before st r = leb-false (ends_before st r) (first_kept st q) y in
            inl (ap (λ z. z.version) (sym (local_one (max (max st.oldest r.version) q.version) (omega arith) i j r q a c e f
            (omega arith, omega arith) (omega arith, omega arith))))

    local_kin : Kin st
    local_kin = record {
      order = ok.header.0;
      unique = ok.unique;
      versions = ok.versions;
      lifetimes = ok.lifetimes;
      roots = λ v low i j r q a c e f k l. ok.unique i j r q a c (ap (λ z. z.version) (local_one v low i j r q a c e f k l)) (e ∙ sym f);
      outlives = outlives (λ i r a. (ok.versions i r a).0) local_links;
    }

    local_passed : (i : ℕ) (r : Record) → At st i r → Passed r
    local_passed i r a = record {
      latest = (ok.versions i r a).1;
      life = ok.lifetimes i r a;
      once = held_once i r a;
      body = bodies_found r r.body (ok.bodies i r a);
      links = local_links i r a;
      covered = (local_apart i r a, (named_is_summed st local_kin).0 ok.parents i r a);
      counts = ok.counts i r a;
    }

  -- Of a store with a right size and header, whose records are in form, the slots pass exactly if it is sound.
  pub slots_test_decides_sound : (1 ≤ length st.slots) × (length st.slots ≤ most_slots) →
      (st.oldest ≤ st.latest) × (st.latest ≤ top32) →
      ((i : ℕ) (r : Record) → At st i r → RecordForm r) → (slots_test leaf_hash inner_hash st ≡ true) ↔ Sound leaf_hash inner_hash st
  slots_test_decides_sound size header formed = (
    λ h.
        let t = slots_say.passed h in
        (local_is_global leaf_hash inner_hash st).0 (passed_local size header formed t.0 t.1),
    λ s.
        let ok = (local_is_global leaf_hash inner_hash st).1 s in
        slots_say.passes (ok.whole, local_passed ok),
  )

  -- A store passes the test exactly if it is sound.
  pub test_decides_sound : (local_test leaf_hash inner_hash st ≡ true) ↔ Sound leaf_hash inner_hash st
  unfolding local_test
  test_decides_sound =
      let test = (next (head_says st) (next (each_record st form_test RecordForm form_says)
      (next (itself (slots_test leaf_hash inner_hash st)) done))).all in (
        λ h. let t = test.passed h in (slots_test_decides_sound t.0.0 t.0.1 t.1.0).0 t.1.1.0,
        λ s. test.passes ((s.size, s.header), (s.formed, ((slots_test_decides_sound s.size s.header s.formed).1 s, tt))),
      )
