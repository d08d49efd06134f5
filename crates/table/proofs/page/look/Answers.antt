-- One law for each return: a row of another page, one that is not committed, one that is.
use Rattle.std.proofs.Common.{ℕ, max, refl, sym, ap, ◌∙◌, eqb, eq-eqb, ne_eqb}
use Rattle.word.proofs.Tests.{so, not_so}
use Rattle.record.specs.Record.{lesser}
use Rattle.table.proofs.Surveys.{seen_other, seen_open, seen_committed}
use Rattle.table.proofs.page.look.Goals as goal

pub returns-then-ne : goal.returns-then-ne
returns-then-ne c = seen_other _ _ _ _ (not_so _ _ (ap (λ (z : ℕ). eqb z c.args.p.0) c.page_of.ensures.0) (sym c.if-ne.ensures))

pub returns-then-owner_of-ne0 : goal.returns-then-owner_of-ne0
returns-then-owner_of-ne0 c = seen_open _ _ _ _ _ (so _ _ (ap (λ (z : ℕ). eqb z c.args.p.0) c.page_of.ensures.0) (sym c.if-ne.ensures)) (ne_eqb _ _ (λ e. c.if-owner_of-ne0.true (c.owner_of.ensures ∙ e))) refl refl refl refl refl refl

pub returns : goal.returns
returns c =
    seen_committed _ _ _ _ _ (so _ _ (ap (λ (z : ℕ). eqb z c.args.p.0) c.page_of.ensures.0) (sym c.if-ne.ensures)) (eq-eqb _ _ (sym c.owner_of.ensures ∙ c.if-owner_of-ne0.false)) refl refl
    (c.lesser_of.ensures ∙ ap (λ (z : ℕ). lesser c.args.s.least z) c.number_of-k.ensures.0)
    (c.max.ensures ∙ ap (λ (z : ℕ). max c.args.s.most z) c.number_of-k.ensures.0)
    c.min.ensures refl
