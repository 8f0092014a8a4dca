-- `usage::texts::put_fault` goes by the fault, as the definition does. Assumes nothing.
use Rattle.text.specs.Pages.{puts_none}
use Rattle.usage.specs.Texts.{fault_text}
use Rattle.usage.proofs.texts.put_fault.Goals as goal

pub returns-in_default : goal.returns-in_default
unfolding fault_text
returns-in_default c = rw c.in_default.is (puts_none _)

pub returns-in-Unknown : goal.returns-in-Unknown
unfolding fault_text
returns-in-Unknown c = rw (c.in-Some.is, c.in-Unknown.is) c.put_around.ensures

pub returns-in-Superfluous : goal.returns-in-Superfluous
unfolding fault_text
returns-in-Superfluous c = rw (c.in-Some.is, c.in-Superfluous.is) c.put_around-in-Superfluous.ensures

pub returns-in-NotANumber : goal.returns-in-NotANumber
unfolding fault_text
returns-in-NotANumber c = rw (c.in-Some.is, c.in-NotANumber.is) c.put_number_fault.ensures

pub returns-in-TooLarge : goal.returns-in-TooLarge
unfolding fault_text
returns-in-TooLarge c = rw (c.in-Some.is, c.in-TooLarge.is) c.put_number_fault-in-TooLarge.ensures

pub returns-in-NoFile : goal.returns-in-NoFile
unfolding fault_text
returns-in-NoFile c = rw (c.in-Some.is, c.in-NoFile.is) c.put_all.ensures

pub returns-in-NoJob : goal.returns-in-NoJob
unfolding fault_text
returns-in-NoJob c = rw (c.in-Some.is, c.in-NoJob.is) c.put_all-in-NoJob.ensures

pub returns-in-NoLemmas : goal.returns-in-NoLemmas
unfolding fault_text
returns-in-NoLemmas c = rw (c.in-Some.is, c.in-NoLemmas.is) c.put_all-in-NoLemmas.ensures

pub returns-in-NoLemmaFile : goal.returns-in-NoLemmaFile
unfolding fault_text
returns-in-NoLemmaFile c = rw (c.in-Some.is, c.in-NoLemmaFile.is) c.put_all-in-NoLemmaFile.ensures

pub returns-in-TwoInputs : goal.returns-in-TwoInputs
unfolding fault_text
returns-in-TwoInputs c = rw (c.in-Some.is, c.in-TwoInputs.is) c.put_all-in-TwoInputs.ensures
