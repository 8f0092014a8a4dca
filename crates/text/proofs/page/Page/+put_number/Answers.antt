-- The digits of the tenth, then the last.
use Rattle.std.proofs.Common.{sym}
use Rattle.text.specs.Pages.{puts_is, puts_both}
use Rattle.text.specs.NumberLaws.{decimal_small, decimal_more}
use Rattle.text.proofs.page.Page.+put_number.Goals as goal

pub returns-then-n-lt10 : goal.returns-then-n-lt10
returns-then-n-lt10 t c = puts_is (sym (decimal_small c.args.n c.if-n-lt10.true)) c.put.ensures

pub returns : goal.returns
returns t c = puts_is (sym (decimal_more c.args.n c.if-n-lt10.false)) (puts_both c.put_number.ensures c.put-2.ensures)
