-- The search: what it names is a finding, and where it names nothing there is none between the two lists. Assumes nothing.
use Prim.Native.Nat.{ℕ}
use native.Mathlib.Omega.{arith}
use mathlib.Core.Path.{◌≡◌, refl, ap, sym, ◌∙◌, subst}
use mathlib.Core.Logic.{◌⊎◌, inl, inr}
use mathlib.Core.Bool.{Bool, true, false, cond, ◌&&◌, not, true≢false}
use mathlib.Core.List.{List, [], ◌∷◌, ◌++◌}
use Rattle.terms.specs.Bits.{Bytes, same_bytes}
use Rattle.terms.specs.Records.{zeros}
use Rattle.terms.proofs.Tests.{same_bytes_lem, bytes_same}
use Rattle.forgery.specs.Finding.{Finding, nothing, two_equal, one_zero, Among, or_else, NamedFrom, partner_or, partner, zero_among, searched}
use Rattle.forgery.proofs.Lists.{Within}

two_not_nothing : {A : Type 0} (m n : Bytes) → two_equal m n ≡ nothing → A
two_not_nothing m n e = let z : ◌≡◌ {A = ℕ} 0 1 = cc in absurd (omega arith)

zero_not_nothing : {A : Type 0} (m : Bytes) → one_zero m ≡ nothing → A
zero_not_nothing m e = let z : ◌≡◌ {A = ℕ} 0 1 = cc in absurd (omega arith)

or_nothing : (f g : Finding) → or_else f g ≡ nothing → (f ≡ nothing) × (g ≡ nothing)
or_nothing nothing g e = (refl, e)
or_nothing (two_equal m n) g e = two_not_nothing m n e
or_nothing (one_zero m) g e = zero_not_nothing m e

-- bytes that a test tells apart
told_apart : {A : Type 0} (x y : Bytes) → same_bytes x y ≡ false → x ≡ y → A
told_apart x y s e = absurd (true≢false (sym (bytes_same x) ∙ ap (same_bytes x) e ∙ s))

module _ (H : Bytes → Bytes) where
  -- what has no partner is found besides
  pub partner_or_else : (f : Finding) (m : Bytes) (ns : List Bytes) → partner_or H f m ns ≡ or_else (partner H m ns) f
  partner_or_else f m [] = refl
  partner_or_else f m (n ∷ ns) = go (not (same_bytes n m) && same_bytes (H n) (H m)) (partner_or_else f m ns)
    where
      go : (b : Bool) → partner_or H f m ns ≡ or_else (partner H m ns) f →
          cond b (two_equal n m) (partner_or H f m ns) ≡ or_else (cond b (two_equal n m) (partner H m ns)) f
      go true e = refl
      go false e = e

  -- No finding: a message of a node and one that was hashed while checking are the same if their hashes are, and no hash is zero.
  pub record Clean (nodes checked : List Bytes) : Type 0 where
    pub same : (n m : Bytes) → Among n nodes → Among m checked → H n ≡ H m → n ≡ m
    pub node_not_zero : (n : Bytes) → Among n nodes → H n ≡ zeros → ⊥
    pub checked_not_zero : (m : Bytes) → Among m checked → H m ≡ zeros → ⊥

  no_zero : (ms : List Bytes) → zero_among H ms ≡ nothing → (m : Bytes) → Among m ms → H m ≡ zeros → ⊥
  no_zero [] e m h f = h
  no_zero (n ∷ ms) e m h f = go (λ q k. no_zero ms q m k f) (same_bytes (H n) zeros) refl e h
    where
      go : (zero_among H ms ≡ nothing → Among m ms → ⊥) → (b : Bool) → same_bytes (H n) zeros ≡ b →
          cond b (one_zero n) (zero_among H ms) ≡ nothing → (n ≡ m) ⊎ Among m ms → ⊥
      go ih true s e h = zero_not_nothing n e
      go ih false s e (inl q) = told_apart (H n) zeros s (ap H q ∙ f)
      go ih false s e (inr h) = ih e h

  no_partner : (m : Bytes) (ns : List Bytes) → partner H m ns ≡ nothing → (n : Bytes) → Among n ns → H n ≡ H m → n ≡ m
  no_partner m [] e n h f = absurd h
  no_partner m (x ∷ ns) e n h f =
      go (λ q k. no_partner m ns q n k f) (same_bytes x m) (same_bytes (H x) (H m)) refl refl e h
    where
      go : (partner H m ns ≡ nothing → Among n ns → n ≡ m) → (a b : Bool) → same_bytes x m ≡ a → same_bytes (H x) (H m) ≡ b →
          cond (not a && b) (two_equal x m) (partner H m ns) ≡ nothing → (x ≡ n) ⊎ Among n ns → n ≡ m
      go ih true b s t e (inl q) = sym q ∙ same_bytes_lem x m s
      go ih true b s t e (inr h) = ih e h
      go ih false true s t e h = two_not_nothing x m e
      go ih false false s t e (inl q) = told_apart (H x) (H m) t (ap H q ∙ f)
      go ih false false s t e (inr h) = ih e h

  -- where it names nothing
  pub nothing_is_clean : (nodes ms : List Bytes) → searched H nodes ms ≡ nothing → Clean nodes ms
  nothing_is_clean nodes [] e = record {
    same = λ n m a b f. absurd b;
    node_not_zero = λ n h f. no_zero nodes e n h f;
    checked_not_zero = λ m h f. h;
  }
  nothing_is_clean nodes (m ∷ ms) e = go (λ q. nothing_is_clean nodes ms q) (same_bytes (H m) zeros) refl e
    where
      go : (searched H nodes ms ≡ nothing → Clean nodes ms) → (b : Bool) → same_bytes (H m) zeros ≡ b →
          cond b (one_zero m) (partner_or H (searched H nodes ms) m nodes) ≡ nothing → Clean nodes (m ∷ ms)
      go ih true s e = zero_not_nothing m e
      go ih false s e =
          let w = or_nothing (partner H m nodes) (searched H nodes ms) (sym (partner_or_else (searched H nodes ms) m nodes) ∙ e) in
          let rest = ih w.1 in
          record {
            same = λ n k a b f. elim b [
              | inl q ↦ no_partner m nodes w.0 n a (f ∙ ap H (sym q)) ∙ q
              | inr h ↦ rest.same n k a h f
            ];
            node_not_zero = rest.node_not_zero;
            checked_not_zero = λ k b f. elim b [
              | inl q ↦ told_apart (H m) zeros s (ap H q ∙ f)
              | inr h ↦ rest.checked_not_zero k h f
            ];
          }

  -- nothing, or named from a list
  abbrev NamedIf : List Bytes → Finding → Type 0
  NamedIf ms nothing = Unit {0}
  NamedIf ms (two_equal m n) = NamedFrom H ms (two_equal m n)
  NamedIf ms (one_zero m) = NamedFrom H ms (one_zero m)

  or_named : (all : List Bytes) (f g : Finding) → NamedIf all f → NamedIf all g → NamedIf all (or_else f g)
  or_named all nothing g a b = b
  or_named all (two_equal m n) g a b = a
  or_named all (one_zero m) g a b = a

  zero_named : (all ms : List Bytes) → Within ms all → NamedIf all (zero_among H ms)
  zero_named all [] w = tt
  zero_named all (m ∷ ms) w = go (same_bytes (H m) zeros) refl (zero_named all ms (λ n h. w n (inr h)))
    where
      go : (b : Bool) → same_bytes (H m) zeros ≡ b → NamedIf all (zero_among H ms) → NamedIf all (cond b (one_zero m) (zero_among H ms))
      go true s r = (w m (inl refl), same_bytes_lem (H m) zeros s)
      go false s r = r

  partner_named : (all : List Bytes) (m : Bytes) (ns : List Bytes) → Among m all → Within ns all → NamedIf all (partner H m ns)
  partner_named all m [] a w = tt
  partner_named all m (n ∷ ns) a w =
      go (same_bytes n m) (same_bytes (H n) (H m)) refl refl (partner_named all m ns a (λ x h. w x (inr h)))
    where
      go : (b c : Bool) → same_bytes n m ≡ b → same_bytes (H n) (H m) ≡ c → NamedIf all (partner H m ns) →
          NamedIf all (cond (not b && c) (two_equal n m) (partner H m ns))
      go true c s t r = r
      go false true s t r = (w n (inl refl), a, λ e. told_apart n m s e, same_bytes_lem (H n) (H m) t)
      go false false s t r = r

  searched_named : (all nodes ms : List Bytes) → Within nodes all → Within ms all → NamedIf all (searched H nodes ms)
  searched_named all nodes [] v w = zero_named all nodes v
  searched_named all nodes (m ∷ ms) v w =
      go (same_bytes (H m) zeros) refl (searched_named all nodes ms v (λ n h. w n (inr h)))
    where
      go : (b : Bool) → same_bytes (H m) zeros ≡ b → NamedIf all (searched H nodes ms) →
          NamedIf all (cond b (one_zero m) (partner_or H (searched H nodes ms) m nodes))
      go true s r = (w m (inl refl), same_bytes_lem (H m) zeros s)
      go false s r =
          subst (NamedIf all) (sym (partner_or_else (searched H nodes ms) m nodes))
          (or_named all (partner H m nodes) (searched H nodes ms) (partner_named all m nodes (w m (inl refl)) v) r)

  something : (all : List Bytes) (f : Finding) → NamedIf all f → (f ≡ nothing → ⊥) → NamedFrom H all f
  something all nothing a found = found refl
  something all (two_equal m n) a found = a
  something all (one_zero m) a found = a

  -- what it names is named from the messages of both lists
  pub searched_is_named : (all nodes ms : List Bytes) → Within nodes all → Within ms all → (searched H nodes ms ≡ nothing → ⊥) →
      NamedFrom H all (searched H nodes ms)
  searched_is_named all nodes ms v w found = something all (searched H nodes ms) (searched_named all nodes ms v w) found
