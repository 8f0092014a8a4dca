-- A refusal in plain words: its number, its place, and what stands there.
use Rattle.std.specs.Prelude.{ℕ, ◌*◌, min, cond, List, ◌++◌, eqb, ltb}
use Rattle.meaning.specs.Calls.{Report}
use Rattle.text.specs.Ascii.{ascii}
use Rattle.text.specs.Filled.{filled}
use Rattle.faults.specs.Places.{around}
use Rattle.faults.specs.Faults.{fault_of}
use Rattle.fault_texts.specs.FaultTexts.{fault_text}
use Rattle.told.specs.declared.answers.Job.{Job}
use Rattle.told.specs.declared.answers.Job.TheVariants.{Check, Largest, One, List as Listing}

-- its number, and its place where it speaks of the file: 1 to 8
unfoldable pub head_text : ℕ → ℕ → List ℕ
head_text number place =
    cond (ltb number 9) (filled (ascii "refusal # at byte #") number place 0) (filled (ascii "refusal #") number 0 0)

-- which clause: its kind, and its position among those of its kind
unfoldable pub clause_place : ℕ → ℕ → List ℕ
clause_place kind position =
    cond (eqb kind 2) (filled (ascii ", in the Init clause at position #: ") position 0 0)
    (cond (eqb kind 3) (filled (ascii ", in the Tr clause at position #: ") position 0 0)
    (cond (eqb kind 4) (filled (ascii ", in the Bad clause at position #: ") position 0 0)
    (cond (eqb kind 5) (filled (ascii ", in the lemma at position #: ") position 0 0)
    (filled (ascii ", in a record of kind #: ") kind 0 0))))

-- for a literal, 6, the clause around it
unfoldable pub where_text : List ℕ → ℕ → ℕ → List ℕ
where_text file number place =
    cond (eqb number 6) (clause_place (around file place).kind (around file place).position) (ascii ": ")

-- a larger budget to try: ten times as large, up to the largest
unfoldable pub larger : ℕ → ℕ
larger budget = cond (eqb budget 0) 1000000 (min (10 * budget) 4294967295)

-- 10: the budget is used up
unfoldable pub spent_text : ℕ → List ℕ
spent_text budget =
    cond (ltb budget 4294967295)
    (filled (ascii "the budget was used up (decisions: #); try a larger one, for instance #") budget (larger budget) 0)
    (filled (ascii "the budget was used up (decisions: #), and there is no larger one") budget 0 0)

-- what a listing keeps, and the line's end
unfoldable pub kept_text : Job → ℕ → List ℕ
kept_text Listing rows = filled (ascii "; sets kept, the first of the list: #\n") rows 0 0
kept_text Check rows = ascii "\n"
kept_text Largest rows = ascii "\n"
kept_text One rows = ascii "\n"

-- why a job stopped: 9 to 12
unfoldable pub reason_text : Job → Report → ℕ → ℕ → List ℕ
reason_text job r budget space =
    cond (eqb r.number 9) (ascii "fewer bytes were lent than there are candidates\n")
    (cond (eqb r.number 10) (spent_text budget ++ kept_text job r.rows)
    (cond (eqb r.number 11)
    (filled (ascii "no subset of these candidates is safe and inductive (decisions: #). ") r.decisions 0 0
    ++ ascii "This speaks of these candidates only: it does not say that the loader is unsafe\n")
    (cond (eqb r.number 12)
    (filled (ascii "the next set does not fit the space (bytes: #); try a larger space") space 0 0 ++ kept_text job r.rows)
    (ascii "no refusal that this program knows\n"))))

-- a refusal of a job, on a line: of a file, with a budget, and with so many bytes lent
unfoldable pub refusal_line : Job → List ℕ → Report → ℕ → ℕ → List ℕ
refusal_line job file r budget space =
    head_text r.number r.place
    ++ (where_text file r.number r.place
    ++ cond (ltb r.number 9) (fault_text (fault_of file r.number r.place)) (reason_text job r budget space))
