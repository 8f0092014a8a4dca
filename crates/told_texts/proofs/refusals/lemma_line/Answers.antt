-- `told_texts::refusals::lemma_line` meets its contract: part after part. Assumes nothing.
use Prim.Native.Nat.{ℕ}
use Rattle.std.proofs.Common.{rules}
use mathlib.Core.Path.{ap, ◌∙◌}
use mathlib.Core.List.{◌++◌}
use Rattle.std.specs.Prelude.{Option}
use Rattle.text.specs.Ascii.{ascii}
use Rattle.text.specs.Pages.{puts_is, puts_both, puts_out}
use Rattle.text_faults.specs.declared.lemmas.Cause.{Cause}
use Rattle.told_texts.specs.Causes.{lemma_cause_text}
use Rattle.told_texts.specs.Refusals.{place_text, line_shown, lemma_text, lemma_line}
use Rattle.told_texts.proofs.refusals.lemma_line.Goals as goal

pub returns : goal.returns
unfolding lemma_line
returns c =
    let a = c.args in
    let t = a.text.now in
    let head = place_text t a.place (ascii "lemmas ") a.name.now in
    let after = line_shown t a.place in
    let is =
    ap (λ (x : Option Cause). head ++ (ascii ": " ++ (lemma_cause_text c.latches_of-latches.result x ++ after))) c.lemma_cause-cause.ensures
    ∙ ap (λ (l : ℕ). head ++ (ascii ": " ++ lemma_text l t a.place after)) c.latches_of-latches.ensures.0 in
    let wrote =
    puts_is is (puts_both c.put_place.ensures (puts_both c.put_all.ensures (puts_both c.put_lemma_cause.ensures c.put_line.ensures))) in
    puts_out c.new-page.ensures wrote (search (rules, wrote.lent, c.new-page.ensures.lent))
