-- `sets::questions::ask_at` meets its contract. Assumes nothing.
use mathlib.Core.Path.{◌∙◌, sym, ap}
use Rattle.sets.specs.SetLaws.{has_on}
use Rattle.search.specs.Forms.{bounded}
use Rattle.sets.specs.Asks.{asks, asks_of, marks_at}
use Rattle.sets.specs.declared.questions.Each.{Each}
use Rattle.sets.specs.ListingFound.{if_out, if_asked}
use Rattle.sets.specs.ListingForms.{each_asks}
use Rattle.sets.proofs.questions.ask_at.Goals as goal

pub returns-then-not-s-d : goal.returns-then-not-s-d
returns-then-not-s-d c =
    let a = c.args in
    if_out _ _ _ (has_on a.of.now.problem.k a.s a.d _ c.requires c.if-not-s-d.true)

pub returns-in-Step : goal.returns-in-Step
unfolding asks marks_at
returns-in-Step c =
    let a = c.args in
    if_asked _ _ _ (has_on a.of.now.problem.k a.s a.d _ c.requires c.if-not-s-d.false)
    (c.ask.ensures ∙ sym (ap (λ (e : Each). bounded a.left (each_asks (asks_of a.of.now) (marks_at a.of.now.problem.k a.s) e a.d)) c.in-Step.is))

pub returns-in-Smaller : goal.returns-in-Smaller
returns-in-Smaller c =
    let a = c.args in
    if_asked _ _ _ (has_on a.of.now.problem.k a.s a.d _ c.requires c.if-not-s-d.false)
    (c.smaller_at.ensures ∙ sym (ap (λ (e : Each). bounded a.left (each_asks (asks_of a.of.now) (marks_at a.of.now.problem.k a.s) e a.d)) c.in-Smaller.is))
