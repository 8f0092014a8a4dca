-- `fault_texts::texts::put_fault` meets its contract: by the fault. Assumes nothing.
use Rattle.text.specs.Filled.{filled}
use Rattle.text.specs.Pages.{puts_both}
use Rattle.fault_texts.specs.FaultTexts.{fault_text}
use Rattle.fault_texts.proofs.texts.put_fault.Goals as goal

pub returns-in-TooLong : goal.returns-in-TooLong
unfolding fault_text
returns-in-TooLong c = rw c.in-TooLong.is c.put_filled.ensures

pub returns-in-HeadCut : goal.returns-in-HeadCut
unfolding fault_text
returns-in-HeadCut c = rw c.in-HeadCut.is c.put_filled-in-HeadCut.ensures

pub returns-in-BodyCut : goal.returns-in-BodyCut
unfolding fault_text
returns-in-BodyCut c = rw c.in-BodyCut.is c.put_filled-in-BodyCut.ensures

pub returns-in-KindOut : goal.returns-in-KindOut
unfolding fault_text
returns-in-KindOut c = rw c.in-KindOut.is c.put_filled-in-KindOut.ensures

pub returns-in-LengthOut : goal.returns-in-LengthOut
unfolding fault_text
returns-in-LengthOut c = rw c.in-LengthOut.is c.put_filled-in-LengthOut.ensures

pub returns-in-CountsOut : goal.returns-in-CountsOut
unfolding fault_text
returns-in-CountsOut c =
    rw c.in-CountsOut.is (puts_both c.put_filled-in-CountsOut.ensures c.put_filled-in-CountsOut-2.ensures)

pub returns-in-LiteralZero : goal.returns-in-LiteralZero
unfolding fault_text filled
returns-in-LiteralZero c = rw c.in-LiteralZero.is c.put_all.ensures

pub returns-in-NoState : goal.returns-in-NoState
unfolding fault_text
returns-in-NoState c = rw c.in-NoState.is c.put_filled-in-NoState.ensures

pub returns-in-NextValue : goal.returns-in-NextValue
unfolding fault_text
returns-in-NextValue c = rw c.in-NextValue.is c.put_filled-in-NextValue.ensures

pub returns-in-NoVariable : goal.returns-in-NoVariable
unfolding fault_text
returns-in-NoVariable c =
    rw c.in-NoVariable.is (puts_both c.put_filled-in-NoVariable.ensures c.put_filled-in-NoVariable-2.ensures)

pub returns-in-ManyClauses : goal.returns-in-ManyClauses
unfolding fault_text
returns-in-ManyClauses c = rw c.in-ManyClauses.is c.put_filled-in-ManyClauses.ensures

pub returns-in-ManyLemmas : goal.returns-in-ManyLemmas
unfolding fault_text
returns-in-ManyLemmas c = rw c.in-ManyLemmas.is c.put_filled-in-ManyLemmas.ensures

pub returns-in-Behind : goal.returns-in-Behind
unfolding fault_text
returns-in-Behind c = rw c.in-Behind.is c.put_filled-in-Behind.ensures

pub returns-in-Unknown : goal.returns-in-Unknown
unfolding fault_text filled
returns-in-Unknown c = rw c.in-Unknown.is c.put_all-in-Unknown.ensures
