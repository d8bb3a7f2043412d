-- `message_leaf::existence` meets its contract: the head, raw lengths, the path. Assumes nothing.
use mathlib.Core.Path.{◌≡◌, sym, ◌∙◌, subst}
use Rattle.std.specs.Prelude.{None}
use Rattle.message_leaf.specs.Shown.{Walks}
use Rattle.message_leaf.proofs.Heads.{shows_none, shows_there, no_path, key_length_wrong, value_length_wrong, length_right_is, heads_as}
use native.Mathlib.Omega.{arith}
use Rattle.message_leaf.proofs.existence.Goals as goal

pub returns-in_err-h : goal.returns-in_err-h
returns-in_err-h c =
    let gone : c.from_residual.result ≡ None = grind arith in
    rw gone (shows_none (heads_as c.in_err-h.was c.head.ensures).is)

pub length_right-requires : goal.length_right-requires
length_right-requires c = (c.head.ensures.inside c.in_ok-h.h c.in_ok-h.was).key_inside.1

pub returns-then-not-length_right : goal.returns-then-not-length_right
returns-then-not-length_right c =
    let h = c.in_ok-h.h in
    let i = (c.head.ensures.inside h c.in_ok-h.was).key_inside in
    shows_none (key_length_wrong (heads_as c.in_ok-h.was c.head.ensures) (length_right_is 256 h.key h.kstop c.args.x.now i.1 i.2 ∙ sym c.length_right.ensures ∙ c.if-not-length_right.true))

pub length_right-requires-2 : goal.length_right-requires-2
length_right-requires-2 c = (c.head.ensures.inside c.in_ok-h.h c.in_ok-h.was).value_inside.1

pub returns-then-not-length_right-2 : goal.returns-then-not-length_right-2
returns-then-not-length_right-2 c =
    let h = c.in_ok-h.h in
    let i = (c.head.ensures.inside h c.in_ok-h.was).key_inside in
    let j = (c.head.ensures.inside h c.in_ok-h.was).value_inside in
    shows_none (value_length_wrong (heads_as c.in_ok-h.was c.head.ensures) (length_right_is 256 h.key h.kstop c.args.x.now i.1 i.2 ∙ sym c.length_right.ensures ∙ c.if-not-length_right.false)
    (length_right_is 4096 h.value h.vstop c.args.x.now j.1 j.2 ∙ sym c.length_right-2.ensures ∙ c.if-not-length_right-2.true))

pub walk-requires : goal.walk-requires
walk-requires c = (c.head.ensures.inside c.in_ok-h.h c.in_ok-h.was).path_inside.1

pub returns-in_err-count : goal.returns-in_err-count
returns-in_err-count c =
    let h = c.in_ok-h.h in
    let i = (c.head.ensures.inside h c.in_ok-h.was).key_inside in
    let j = (c.head.ensures.inside h c.in_ok-h.was).value_inside in
    let gone : c.from_residual-in_err-count.result ≡ None = grind arith in
    rw gone
    (shows_none (no_path (heads_as c.in_ok-h.was c.head.ensures) (length_right_is 256 h.key h.kstop c.args.x.now i.1 i.2 ∙ sym c.length_right.ensures ∙ c.if-not-length_right.false)
    (length_right_is 4096 h.value h.vstop c.args.x.now j.1 j.2 ∙ sym c.length_right-2.ensures ∙ c.if-not-length_right-2.false) (subst (Walks c.args.x.now h.path) c.in_err-count.was c.walk.ensures)))

pub returns : goal.returns
returns c =
    let h = c.in_ok-h.h in
    let i = (c.head.ensures.inside h c.in_ok-h.was).key_inside in
    let j = (c.head.ensures.inside h c.in_ok-h.was).value_inside in
    shows_there (heads_as c.in_ok-h.was c.head.ensures) (length_right_is 256 h.key h.kstop c.args.x.now i.1 i.2 ∙ sym c.length_right.ensures ∙ c.if-not-length_right.false)
    (length_right_is 4096 h.value h.vstop c.args.x.now j.1 j.2 ∙ sym c.length_right-2.ensures ∙ c.if-not-length_right-2.false) (subst (Walks c.args.x.now h.path) c.in_ok-count.was c.walk.ensures)
