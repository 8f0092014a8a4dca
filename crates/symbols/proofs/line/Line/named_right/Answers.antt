-- `symbols::symbol::Line::named_right` meets its contract: each test that fails has its law, and the last decides. Assumes nothing.
use native.Mathlib.Omega.{arith}
use Rattle.symbols.specs.Form.{nothing_named, no_name, no_space, no_digits, by_place}
use Rattle.symbols.proofs.line.Line.named_right.Goals as goal

pub returns-then-self : goal.returns-then-self
returns-then-self c = nothing_named _ _ _ c.args.self.now.line_to c.args.self.now.closed _ c.if-self.true

pub returns-then-self-past : goal.returns-then-self-past
returns-then-self-past c =
    let x = c.number_at-x.ensures in
    let start = c.args.self.now in
    no_name _ _ _ start.line_to start.closed c.if-self.false c.number_at-x.result x.digits _ c.if-self-past.true

pub returns-then-self-past-ne32 : goal.returns-then-self-past-ne32
returns-then-self-past-ne32 c =
    let x = c.number_at-x.ensures in
    let start = c.args.self.now in
    no_space _ _ _ start.line_to start.closed c.if-self.false c.number_at-x.result x.digits (omega arith) _
    c.if-self-past-ne32.true

pub returns-then-past-self : goal.returns-then-past-self
returns-then-past-self c =
    let x = c.number_at-x.ensures in
    let start = c.args.self.now in
    no_digits _ _ _ start.line_to start.closed c.if-self.false c.number_at-x.result x.digits
    (omega arith) c.if-self-past-ne32.false _ c.if-past-self.true

pub returns : goal.returns
returns c =
    let x = c.number_at-x.ensures in
    let start = c.args.self.now in
    by_place _ _ _ start.line_to start.closed c.if-self.false c.number_at-x.result x.digits (omega arith) c.if-self-past-ne32.false _ c.if-past-self.false _
    c.positions.ensures.0 c.positions.ensures.1
