-- `told_texts::refusals::circuit_line` meets its contract: part after part. Assumes nothing.
use Rattle.std.proofs.Common.{rules}
use mathlib.Core.Path.{ap}
use mathlib.Core.List.{◌++◌}
use Rattle.text.specs.Ascii.{ascii}
use Rattle.text.specs.Pages.{puts_is, puts_both, puts_out}
use Rattle.text_faults.specs.declared.circuit.Fault.{Fault}
use Rattle.told_texts.specs.Refusals.{place_text, line_shown, fault_text, circuit_line}
use Rattle.told_texts.proofs.refusals.circuit_line.Goals as goal

pub returns : goal.returns
unfolding circuit_line
returns c =
    let a = c.args in
    let t = a.text.now in
    let is =
    ap (λ (f : Fault). place_text t a.place (ascii "circuit ") a.name.now ++ fault_text t f (line_shown t a.place)) c.circuit_fault-f.ensures in
    let wrote =
    puts_is is (puts_both c.put_place.ensures (puts_both c.put_kind.ensures (puts_both c.put_cause.ensures c.put_line.ensures))) in
    puts_out c.new-page.ensures wrote (search (rules, wrote.lent, c.new-page.ensures.lent))
