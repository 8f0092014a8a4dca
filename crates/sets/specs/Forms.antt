-- What the jobs' values stand for: a sifted set, a set that was kept, with the decisions used; and where the budget ends them.
use Rattle.std.specs.Prelude.{ℕ, ◌≤◌, ◌<◌, ◌≡◌, Bool, not, ◌&&◌, cond, List, take, Ok, Err}
use Rattle.std.specs.declared.result.Result.{Result}
use Rattle.search.specs.declared.Spent.{Spent}
use Rattle.meaning.specs.Meaning
use Rattle.meaning.specs.Clauses.{any}
use Rattle.meaning.specs.Rules.{Answer, Counted, each, sum}
use Rattle.format.specs.declared.Problem.{Problem}
use Rattle.search.specs.declared.Marks.{Marks}
use Rattle.search.specs.Forms.{question_of, Among}
use Rattle.sets.specs.Asks.{marks_at, asks}
use Rattle.search.specs.declared.Question.{Question}
use Rattle.search.specs.declared.Question.TheVariants.{Initiation, Step}
use Rattle.sets.specs.declared.rounds.Way.{Way}
use Rattle.sets.specs.declared.rounds.Way.TheVariants.{First, Round}
use Rattle.sets.specs.declared.rounds.Sifted.{Sifted}
use Rattle.sets.specs.declared.rounds.Kept.{Kept}
use Rattle.sets.specs.Upto.{upto}

-- the question that a way of sifting asks of a position
abbrev pub way_of : Way → ℕ → Question
way_of First d = Initiation d
way_of Round d = Step d

-- The two siftings, initiation and a round, ask one question of each position: ask-at is its answer
module _ (ask_at : ℕ → Answer) where
  -- what stays: the positions that are in and whose question is not satisfiable
  unfoldable pub sifted : Meaning.Marks → Meaning.Marks
  sifted S = each (λ d b. b && not (ask_at d).sat) 0 S

  unfoldable pub costs : Meaning.Marks → List ℕ
  costs S = each (λ d b. cond b (ask_at d).count 0) 0 S

  unfoldable pub falls : Meaning.Marks → List Bool
  falls S = each (λ d b. b && (ask_at d).sat) 0 S

  -- after the first d positions: r holds what stayed of them, and the decisions of their questions, which fit the budget
  pub record SiftedUpto (k left : ℕ) (S : Meaning.Marks) (d : ℕ) (r : Sifted) : Type 0 where
    pub used : r.used ≡ sum (take d (costs S))
    pub fits : r.used ≤ left
    pub marks : marks_at k r.set ≡ upto d (sifted S) S
    pub removed : r.removed ≡ any (λ b. b) (take d (falls S))

  -- the sifting of S, where the decisions suffice
  pub record SiftedAll (k : ℕ) (S : Meaning.Marks) (r : Sifted) : Type 0 where
    pub used : r.used ≡ sum (costs S)
    pub marks : marks_at k r.set ≡ sifted S
    pub removed : r.removed ≡ any (λ b. b) (falls S)

  -- a sifting with so many decisions left: spent exactly if it wants more
  abbrev pub SiftedIs : ℕ → ℕ → Meaning.Marks → Result Sifted Spent → Type 0
  SiftedIs k left S (Ok r) = SiftedAll k S r × (sum (costs S) ≤ left)
  SiftedIs k left S (Err s) = left < sum (costs S)

  -- after one position more: either the budget is used up, and then it is less than the whole sifting wants, or r is what was done
  abbrev pub SiftedNext : ℕ → ℕ → Meaning.Marks → ℕ → Result Sifted Spent → Type 0
  SiftedNext k left S d (Ok r) = SiftedUpto k left S d r
  SiftedNext k left S d (Err s) = left < sum (costs S)

-- a set that was kept, where the decisions suffice
pub record KeptAll (k : ℕ) (c : Counted) (r : Kept) : Type 0 where
  pub used : r.used ≡ c.count
  pub marks : marks_at k r.set ≡ c.marks

-- with so many decisions left: spent exactly if it wants more
abbrev pub KeptIs : ℕ → ℕ → Counted → Result Kept Spent → Type 0
KeptIs k left c (Ok r) = KeptAll k c r × (c.count ≤ left)
KeptIs k left c (Err s) = left < c.count

-- the answers that a way of sifting gets: those of the questions about the set s of the problem at p
abbrev pub way_asks : List ℕ → Problem → Marks → Way → ℕ → Answer
way_asks file p s way d = asks file p (marks_at p.k s) (question_of (way_of way d))

abbrev pub DoneUpto : List ℕ → Problem → Marks → Way → ℕ → ℕ → Sifted → Type 0
DoneUpto file p s way left d r = SiftedUpto (way_asks file p s way) p.k left (marks_at p.k s) d r

abbrev pub DoneNext : List ℕ → Problem → Marks → Way → ℕ → ℕ → Result Sifted Spent → Type 0
DoneNext file p s way left d r = SiftedNext (way_asks file p s way) p.k left (marks_at p.k s) d r

abbrev pub Done : List ℕ → Problem → Marks → Way → ℕ → Result Sifted Spent → Type 0
Done file p s way left r = SiftedIs (way_asks file p s way) p.k left (marks_at p.k s) r

-- a position of the problem may be asked either way
pub asking_way : (k : ℕ) (way : Way) (d : ℕ) → d < k → Among k (way_of way d)
asking_way k First d h = h
asking_way k Round d h = h
