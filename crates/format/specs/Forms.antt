-- What the code's types stand for: a class, a row of the kind table, a literal.
use Rattle.meaning.specs.File
use Rattle.meaning.specs.File.{Kind}
use Rattle.meaning.specs.Clauses
use Rattle.format.specs.declared.Class.{Class}
use Rattle.format.specs.declared.Class.TheVariants.{Nothing, State, Present, Every}
use Rattle.format.specs.declared.Row.{Row}
use Rattle.format.specs.declared.Literal.{Literal}
use Rattle.format.specs.declared.Literal.TheVariants.{Pos, Neg}

abbrev pub class_of : Class → File.Class
class_of Nothing = File.nothing
class_of State = File.state
class_of Present = File.present
class_of Every = File.every

abbrev pub kind_of : Row → Kind
kind_of r =
    record
    { shortest = r.shortest; longest = r.longest; even = r.even; class = class_of r.class; most = r.most }

abbrev pub literal_of : Literal → Clauses.Literal
literal_of (Pos v) = Clauses.pos v
literal_of (Neg v) = Clauses.neg v
