-- Document 02, request 2026-14, the pocket profile: proofs of at most 32 steps for each leaf shown. Assumes nothing.
use Rattle.std.specs.Prelude.{ℕ, ◌≡◌, Bool, true, false, cond, ◌&&◌, length, leb}
use Rattle.std.proofs.Math.Option.{Option, none, some}
use Rattle.terms.specs.Bits.{Bytes}
use Rattle.terms.specs.Records.{Presence, Proof, presence, absence, Store}
use Rattle.meaning.specs.Calls.{Answer, refused, accepted}
use Rattle.meaning.specs.Proving.{proof, fitted}

-- The path of a leaf has at most 32 steps.
unfoldable pub short_path : Presence → Bool
short_path p = leb (length p.steps) 32

abbrev pub short_neighbour : Option Presence → Bool
short_neighbour none = true
short_neighbour (some p) = short_path p

-- A proof is inside the profile if the path of each leaf shown is short, else outside.
abbrev pub small : Proof → Bool
small (presence p) = short_path p
small (absence a) = short_neighbour a.leftward && short_neighbour a.rightward

abbrev pub Outside : Proof → Type 0
Outside p = small p ≡ false

-- A proof outside it is refused with 19.
abbrev pub in_profile : Answer Proof → Answer Proof
in_profile (refused n) = refused n
in_profile (accepted p) = cond (small p) (accepted p) (refused 19)

-- The pocket writer refuses as the full one does, with 19 before 9.
unfoldable pub pocket_prove : Store → ℕ → Bytes → ℕ → Answer Proof
pocket_prove st v k room = fitted room (in_profile (proof st v k))

-- The number by name, as the laws cite it.
abbrev pub pocket_steps : ℕ
pocket_steps = 32
