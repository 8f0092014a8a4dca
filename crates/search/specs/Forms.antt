-- What the code's types stand for: settings, sets of positions, questions, answers within a budget, and passes.
use Rattle.std.specs.Prelude.{ℕ, ◌+◌, ◌^◌, ◌<◌, Bool, true, false, take, ltb, Ok, Err}
use Rattle.std.specs.declared.result.Result.{Result}
use Rattle.meaning.specs.Meaning
use Rattle.meaning.specs.Search
use Rattle.meaning.specs.Rules
use Rattle.meaning.specs.Rules.{Answer}
use Rattle.passes.specs.Forms.{entries}
use Rattle.search.specs.declared.Setting.{Setting}
use Rattle.search.specs.declared.Marks.{Marks}
use Rattle.search.specs.declared.Question.{Question}
use Rattle.search.specs.declared.Question.TheVariants.{Initiation, Step, Safety}
use Rattle.search.specs.declared.Answer.{Answer as Told}
use Rattle.search.specs.declared.Answer.TheVariants.{Yes, No}
use Rattle.search.specs.declared.Spent.{Spent}
use Rattle.passes.specs.declared.Tally.{Tally}
use Rattle.passes.specs.declared.Tally.TheVariants.{Satisfied, Try, Forced, Closed}

abbrev pub setting_of : Setting → Search.Setting
setting_of s = entries s.values

-- the first k positions of a set
abbrev pub marks_at : ℕ → Marks → Meaning.Marks
marks_at k s = take k s.on

abbrev pub question_of : Question → Rules.Question
question_of (Initiation d) = Rules.initiation d
question_of (Step d) = Rules.step d
question_of Safety = Rules.safety

-- the position that a question speaks of is one of k
abbrev pub Among : ℕ → Question → Type 0
Among k (Initiation d) = d < k
Among k (Step d) = d < k
Among k Safety = Unit {0}

-- an answer within a budget, or spent
abbrev pub Found : Type 0
Found = Result Told Spent

unfoldable pub yes_or_no : Bool → ℕ → Told
yes_or_no true d = Yes d
yes_or_no false d = No d

unfoldable pub spent_if : Bool → Answer → Found
spent_if true a = Err (record {})
spent_if false a = Ok (yes_or_no a.sat a.count)

-- an answer within a budget: spent exactly if it counts more decisions than are left
unfoldable pub bounded : ℕ → Answer → Found
bounded left a = spent_if (ltb left a.count) a

-- an answer after so many decisions more
abbrev pub more : ℕ → Told → Told
more d (Yes e) = Yes (d + e)
more d (No e) = No (d + e)

abbrev pub later : ℕ → Found → Found
later d (Ok a) = Ok (more d a)
later d (Err s) = Err s

-- the decisions of both fit a count
abbrev pub Counts : ℕ → Told → Type 0
Counts d (Yes e) = d + e < 2 ^ 64
Counts d (No e) = d + e < 2 ^ 64

-- the answer where nothing is left to try
abbrev pub ended_by : Tally → Told
ended_by Satisfied = Yes 0
ended_by (Try l) = No 0
ended_by Forced = No 0
ended_by Closed = No 0
