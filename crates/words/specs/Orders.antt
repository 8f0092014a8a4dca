-- The order that a command line gives: its words are taken one after another.
use Rattle.std.specs.Prelude.{ℕ, Bool, true, false, ◌&&◌, cond, List, [], ◌∷◌, eqb, ltb, Option, None, Some, Result, Ok, Err}
use Rattle.text.specs.Ascii.{ascii}
use Rattle.spelling.specs.Words.{same, is_option}
use Rattle.spelling.specs.Numbers.{number_of}
use Rattle.spelling.specs.declared.number.NumberFault.{NumberFault}
use Rattle.spelling.specs.declared.number.NumberFault.TheVariants.{Over, Not}
use Rattle.words.specs.declared.order.Job.{Job}
use Rattle.words.specs.declared.order.Job.TheVariants.{Check, Largest, One, List as Listing, Problem, Help, Version}
use Rattle.words.specs.declared.order.Fault.{Fault}
use Rattle.words.specs.declared.order.Fault.TheVariants.{Unknown, Superfluous, NotANumber, TooLarge, NoFile, NoJob, NoLemmas, NoLemmaFile, TwoInputs}
use Rattle.words.specs.declared.order.Order.{Order}

-- the largest budget, and the largest space
abbrev pub budget_most : ℕ
budget_most = 4294967295

abbrev pub space_most : ℕ
space_most = 1048576

-- the order before any word
abbrev pub begun : Order
begun = record { job = None; named = 0; marks = false; budget = 1000000; space = 65536; awaiting = false; lemmas = false; input = false; fault = None }

abbrev pub faulty : Option Fault → Bool
faulty None = false
faulty (Some f) = true

-- no word was read yet
abbrev pub awaited : Option Job → Bool
awaited None = true
awaited (Some j) = false

-- how many words a job takes: a file, a budget, a space
abbrev pub most_words : Option Job → ℕ
most_words None = 0
most_words (Some Check) = 1
most_words (Some Largest) = 2
most_words (Some One) = 2
most_words (Some Listing) = 3
most_words (Some Problem) = 1
most_words (Some Help) = 0
most_words (Some Version) = 0

-- a job of circuits alone
abbrev pub needs_lemmas : Option Job → Bool
needs_lemmas None = false
needs_lemmas (Some Check) = false
needs_lemmas (Some Largest) = false
needs_lemmas (Some One) = false
needs_lemmas (Some Listing) = false
needs_lemmas (Some Problem) = true
needs_lemmas (Some Help) = false
needs_lemmas (Some Version) = false

-- which job a word names
unfoldable pub job_of : List ℕ → Option Job
job_of w =
    cond (same w (ascii "check")) (Some Check)
    (cond (same w (ascii "largest")) (Some Largest)
    (cond (same w (ascii "one")) (Some One)
    (cond (same w (ascii "list")) (Some Listing)
    (cond (same w (ascii "problem")) (Some Problem)
    (cond (same w (ascii "--help")) (Some Help)
    (cond (same w (ascii "--version")) (Some Version)
    None))))))

-- an order with a fault, with a job, with marks, with the lemma file's name awaited or given, with a word more that is the file's name, the
-- budget or the space
abbrev pub with_fault : Order → Fault → Order
with_fault o f =
    record {
      job = o.job;
      named = o.named;
      marks = o.marks;
      budget = o.budget;
      space = o.space;
      awaiting = o.awaiting;
      lemmas = o.lemmas;
      input = o.input;
      fault = Some f;
    }

abbrev pub with_job : Order → Job → Order
with_job o j =
    record {
      job = Some j;
      named = o.named;
      marks = o.marks;
      budget = o.budget;
      space = o.space;
      awaiting = o.awaiting;
      lemmas = o.lemmas;
      input = o.input;
      fault = o.fault;
    }

abbrev pub with_marks : Order → Order
with_marks o =
    record {
      job = o.job;
      named = o.named;
      marks = true;
      budget = o.budget;
      space = o.space;
      awaiting = o.awaiting;
      lemmas = o.lemmas;
      input = o.input;
      fault = o.fault;
    }

abbrev pub with_awaiting : Order → Order
with_awaiting o =
    record {
      job = o.job;
      named = o.named;
      marks = o.marks;
      budget = o.budget;
      space = o.space;
      awaiting = true;
      lemmas = o.lemmas;
      input = o.input;
      fault = o.fault;
    }

abbrev pub with_lemmas : Order → Bool → Order
with_lemmas o i =
    record {
      job = o.job;
      named = o.named;
      marks = o.marks;
      budget = o.budget;
      space = o.space;
      awaiting = false;
      lemmas = true;
      input = i;
      fault = o.fault;
    }

abbrev pub with_file : Order → Bool → Order
with_file o i =
    record {
      job = o.job;
      named = 1;
      marks = o.marks;
      budget = o.budget;
      space = o.space;
      awaiting = o.awaiting;
      lemmas = o.lemmas;
      input = i;
      fault = o.fault;
    }

abbrev pub number_fault : NumberFault → Fault
number_fault Over = TooLarge
number_fault Not = NotANumber

abbrev pub with_budget : Order → Result ℕ NumberFault → Order
with_budget o (Ok n) =
    record {
      job = o.job;
      named = 2;
      marks = o.marks;
      budget = n;
      space = o.space;
      awaiting = o.awaiting;
      lemmas = o.lemmas;
      input = o.input;
      fault = o.fault;
    }
with_budget o (Err e) = with_fault o (number_fault e)

abbrev pub with_space : Order → Result ℕ NumberFault → Order
with_space o (Ok n) =
    record {
      job = o.job;
      named = 3;
      marks = o.marks;
      budget = o.budget;
      space = n;
      awaiting = o.awaiting;
      lemmas = o.lemmas;
      input = o.input;
      fault = o.fault;
    }
with_space o (Err e) = with_fault o (number_fault e)

-- The first word names the job.
abbrev pub take_job : Order → Option Job → Order
take_job o None = with_fault o Unknown
take_job o (Some j) = with_job o j

-- `--marks` goes with every job that marks, `--lemmas` once with every job that has a file; no other word starts with two dashes.
unfoldable pub take_marks : Order → Order
take_marks o = cond (ltb 1 (most_words o.job)) (with_marks o) (with_fault o Superfluous)

unfoldable pub take_asked : Order → Order
take_asked o =
    cond o.lemmas (with_fault o Superfluous) (cond (ltb 0 (most_words o.job)) (with_awaiting o) (with_fault o Superfluous))

unfoldable pub take_option : Order → List ℕ → Order
take_option o w =
    cond (same w (ascii "--marks")) (take_marks o) (cond (same w (ascii "--lemmas")) (take_asked o) (with_fault o Unknown))

-- A dash is standard input, which only one file may be.
abbrev pub is_input : List ℕ → Bool
is_input w = same w (ascii "-")

unfoldable pub take_file : Order → List ℕ → Order
take_file o w = cond (is_input w) (cond o.input (with_fault o TwoInputs) (with_file o true)) (with_file o o.input)

-- The word after `--lemmas` is the lemma file's name.
unfoldable pub take_lemmas : Order → List ℕ → Order
take_lemmas o w =
    cond (is_option w) (with_fault o NoLemmaFile)
    (cond (is_input w) (cond o.input (with_fault o TwoInputs) (with_lemmas o true)) (with_lemmas o o.input))

-- Any other word is the file's name, then the budget, then the space, as far as the job takes them.
unfoldable pub take_named : Order → List ℕ → Order
take_named o w =
    cond (eqb o.named 0) (take_file o w)
    (cond (eqb o.named 1) (with_budget o (number_of w budget_most)) (with_space o (number_of w space_most)))

unfoldable pub take_plain : Order → List ℕ → Order
take_plain o w = cond (ltb o.named (most_words o.job)) (take_named o w) (with_fault o Superfluous)

-- a word after the job
unfoldable pub take_open : Order → List ℕ → Order
take_open o w = cond o.awaiting (take_lemmas o w) (cond (is_option w) (take_option o w) (take_plain o w))

-- One word more. After a fault nothing changes.
unfoldable pub take_word : Order → List ℕ → Order
take_word o w = cond (faulty o.fault) o (cond (awaited o.job) (take_job o (job_of w)) (take_open o w))

-- After the last word: what is still missing is a fault. A job of circuits has a lemma file, a job that has a file has one named, and so has
-- `--lemmas`.
unfoldable pub lacking_lemmas : Order → Order
lacking_lemmas o = cond o.lemmas o (cond (needs_lemmas o.job) (with_fault o NoLemmas) o)

unfoldable pub lacking_file : Order → Order
lacking_file o = cond (eqb o.named 0) (cond (ltb 0 (most_words o.job)) (with_fault o NoFile) o) (lacking_lemmas o)

unfoldable pub lacking : Order → Order
lacking o = cond (awaited o.job) (with_fault o NoJob) (cond o.awaiting (with_fault o NoLemmaFile) (lacking_file o))

unfoldable pub finished : Order → Order
finished o = cond (faulty o.fault) o (lacking o)

-- the words of a command line, one after another, and the order that they give
unfoldable pub taken : Order → List (List ℕ) → Order
taken o [] = o
taken o (w ∷ ws) = taken (take_word o w) ws

unfoldable pub order_of : List (List ℕ) → Order
order_of ws = finished (taken begun ws)

-- whether a word is the file's name
unfoldable pub is_file : Order → List ℕ → Bool
is_file o w = eqb o.named 0 && eqb (take_word o w).named 1

-- whether a word is the lemma file's name
unfoldable pub is_lemmas : Order → List ℕ → Bool
is_lemmas o w = cond o.lemmas false (take_word o w).lemmas
