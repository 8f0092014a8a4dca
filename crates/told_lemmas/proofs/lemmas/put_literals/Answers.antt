use Rattle.std.proofs.Common.{arith, ap, ◌∙◌, ◌≡◌, ◌+◌, ◌*◌, ◌-◌}
use Rattle.text.specs.PageLaws.{appends_is}
use Rattle.told_lemmas.specs.Lemmas.{literal_text}
use Rattle.told_lemmas.specs.LemmaLaws.{literal_more, literals_done}
use Rattle.told_lemmas.proofs.lemmas.put_literals.Goals as goal

pub loop-i-preserved : goal.loop-i-preserved
loop-i-preserved c =
    let l = c.loop-i in
    let here : c.args.from + 2 * (l.i + 1) ≡ c.args.from + 2 * l.i + 2 = omega arith in
    let left : c.args.count - (l.i + 1) ≡ c.args.count - l.i - 1 = omega arith in
    rw (here, left) (record {
      bytes =
          literal_more _ (c.args.from + 2 * l.i) (c.args.count - l.i) (omega arith) l.invariant.bytes
          (appends_is (ap literal_text c.literal_at.ensures) c.put_literal.ensures.bytes);
      lent = c.put_literal.ensures.lent ∙ l.invariant.lent;
    })

pub returns : goal.returns
returns c =
    let l = c.loop-i in
    record {
      bytes = literals_done _ _ _ (omega arith) l.invariant.bytes c.put.ensures.bytes;
      lent = c.put.ensures.lent ∙ l.invariant.lent;
    }
