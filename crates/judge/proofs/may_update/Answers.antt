-- `judge::may_update` meets its contract: each return is the first of `update_refusals` that holds, or none.
use mathlib.Core.Path.{◌≡◌, refl, ap, sym, ◌∙◌}
use mathlib.Core.Bool.{not}
use native.Mathlib.Omega.{arith}
use borrow.Author.Tests.{lt-ltb, le-ltb, le-leb}
use Prim.Native.Nat.{ℕ, ◌+◌, ◌≤◌, ◌<◌}
use mathlib.Core.Bool.{true}
use mathlib.Core.List.{List}
use Rattle.record.specs.Record.{row_of}
use Rattle.rules.specs.Calls.{is_number, held_to_read, held_to_update, verdict_of, update_refusals}
use Rattle.rules.proofs.Verdicts.{refused, passed, number_least}
use Rattle.judge.proofs.Laws.{turned, same, held_apart}
use Rattle.judge.proofs.may_update.Goals as goal

-- past the tests of its arguments, what holds the bytes asked for is what the row would not be apart from
asked : (p offset w kind v x size pages : ℕ) (l : List (List ℕ)) → p < pages → offset + w ≤ size → size ≤ 4096 → pages ≤ 1024 → is_number x ≡ true
    → held_to_read l x p offset w ≡ held_to_update l (row_of p offset w kind v x)
asked p offset w kind v x size pages l h k m n e = held_apart p offset w kind v x (omega arith) (omega arith) (number_least x e) l

pub returns-then-is_held : goal.returns-then-is_held
unfolding verdict_of update_refusals
returns-then-is_held c = passed _ _ _ _ (ap not (lt-ltb _ _ c.if-pages-p.false)) (passed _ _ _ _ (turned _ _ _ c.is_number.ensures (ap not c.if-not-is_number.false)) (passed _ _ _ _ (turned _ _ _ c.is_length.ensures (ap not c.if-not-is_length.false)) (passed _ _ _ _ (ap not (le-leb _ _ c.if-size-offset.false)) (passed _ _ _ _ (turned _ _ _ c.is_value.ensures (ap not c.if-not-is_value.false)) (passed _ _ _ _ (ap not (le-leb _ _ c.if-kind-gt1.false)) (passed _ _ _ _ (turned _ _ _ c.is_live.ensures (ap not c.if-not-is_live.false)) (refused _ _ _ (sym (asked c.args.p c.args.offset c.args.w c.args.kind c.args.v c.args.x c.args.size c.args.pages c.args.online.now c.if-pages-p.false c.if-size-offset.false c.requires.1 c.requires.2 (sym c.is_number.ensures ∙ c.if-not-is_number.false)) ∙ same _ _ _ c.is_held.ensures c.if-is_held.true))))))))

pub returns-then-room-online : goal.returns-then-room-online
unfolding verdict_of update_refusals
returns-then-room-online c = passed _ _ _ _ (ap not (lt-ltb _ _ c.if-pages-p.false)) (passed _ _ _ _ (turned _ _ _ c.is_number.ensures (ap not c.if-not-is_number.false)) (passed _ _ _ _ (turned _ _ _ c.is_length.ensures (ap not c.if-not-is_length.false)) (passed _ _ _ _ (ap not (le-leb _ _ c.if-size-offset.false)) (passed _ _ _ _ (turned _ _ _ c.is_value.ensures (ap not c.if-not-is_value.false)) (passed _ _ _ _ (ap not (le-leb _ _ c.if-kind-gt1.false)) (passed _ _ _ _ (turned _ _ _ c.is_live.ensures (ap not c.if-not-is_live.false)) (passed _ _ _ _ (sym (asked c.args.p c.args.offset c.args.w c.args.kind c.args.v c.args.x c.args.size c.args.pages c.args.online.now c.if-pages-p.false c.if-size-offset.false c.requires.1 c.requires.2 (sym c.is_number.ensures ∙ c.if-not-is_number.false)) ∙ same _ _ _ c.is_held.ensures c.if-is_held.false) (refused _ _ _ (lt-ltb _ _ c.if-room-online.true)))))))))

pub returns : goal.returns
unfolding verdict_of update_refusals
returns c = passed _ _ _ _ (ap not (lt-ltb _ _ c.if-pages-p.false)) (passed _ _ _ _ (turned _ _ _ c.is_number.ensures (ap not c.if-not-is_number.false)) (passed _ _ _ _ (turned _ _ _ c.is_length.ensures (ap not c.if-not-is_length.false)) (passed _ _ _ _ (ap not (le-leb _ _ c.if-size-offset.false)) (passed _ _ _ _ (turned _ _ _ c.is_value.ensures (ap not c.if-not-is_value.false)) (passed _ _ _ _ (ap not (le-leb _ _ c.if-kind-gt1.false)) (passed _ _ _ _ (turned _ _ _ c.is_live.ensures (ap not c.if-not-is_live.false)) (passed _ _ _ _ (sym (asked c.args.p c.args.offset c.args.w c.args.kind c.args.v c.args.x c.args.size c.args.pages c.args.online.now c.if-pages-p.false c.if-size-offset.false c.requires.1 c.requires.2 (sym c.is_number.ensures ∙ c.if-not-is_number.false)) ∙ same _ _ _ c.is_held.ensures c.if-is_held.false) (passed _ _ _ _ (le-ltb _ _ c.if-room-online.false) refl))))))))
