-- Command lines, worked out.
use Rattle.std.specs.Prelude.{ℕ, ◌≡◌, refl, Bool, true, false, List, [], ◌∷◌, Option, None, Some, Ok, Err}
use Rattle.text.specs.Ascii.{ascii}
use Rattle.spelling.specs.Numbers.{value_after, value, number_of}
use Rattle.spelling.specs.declared.number.NumberFault.TheVariants.{Over, Not}
use Rattle.words.specs.declared.order.Job.{Job}
use Rattle.words.specs.declared.order.Job.TheVariants.{Check, Largest, One, List as Listing, Problem, Help, Version}
use Rattle.words.specs.declared.order.Fault.{Fault}
use Rattle.words.specs.declared.order.Fault.TheVariants.{Unknown, Superfluous, NotANumber, TooLarge, NoFile, NoJob, NoLemmas, NoLemmaFile, TwoInputs}
use Rattle.words.specs.declared.order.Order.{Order}
use Rattle.words.specs.Orders.{job_of, take_marks, take_asked, take_option, take_file, take_lemmas, take_named, take_plain}
use Rattle.words.specs.Orders.{take_open, take_word, lacking_lemmas, lacking_file, lacking, finished, taken, order_of, begun, is_file, is_lemmas}

-- a command line and the order that it gives: job, words named, marks, budget, space, fault; with no lemma file and no standard input, or with
-- them
record Case : Type 0 where
  words : List (List ℕ)
  gives : Order

abbrev with_files : List (List ℕ) → Option Job → ℕ → Bool → ℕ → ℕ → Bool → Bool → Bool → Option Fault → Case
with_files ws job named marks budget space awaiting lemmas input fault =
    record {
      words = ws;
      gives =
          record {
            job = job;
            named = named;
            marks = marks;
            budget = budget;
            space = space;
            awaiting = awaiting;
            lemmas = lemmas;
            input = input;
            fault = fault;
          };
    }

abbrev case : List (List ℕ) → Option Job → ℕ → Bool → ℕ → ℕ → Option Fault → Case
case ws job named marks budget space fault = with_files ws job named marks budget space false false false fault

abbrev F : List ℕ
F = ascii "F"

table : List Case
table =
    case (ascii "check" ∷ F ∷ []) (Some Check) 1 false 1000000 65536 None
    ∷ case (ascii "one" ∷ F ∷ ascii "12" ∷ []) (Some One) 2 false 12 65536 None
    ∷ case (ascii "largest" ∷ F ∷ ascii "4294967295" ∷ []) (Some Largest) 2 false 4294967295 65536 None
    ∷ with_files (ascii "list" ∷ ascii "-" ∷ ascii "0" ∷ ascii "1048576" ∷ []) (Some Listing) 3 false 0 1048576 false false true None
    ∷ with_files (ascii "problem" ∷ F ∷ ascii "--lemmas" ∷ ascii "-" ∷ []) (Some Problem) 1 false 1000000 65536 false true true None
    ∷ with_files (ascii "one" ∷ ascii "--lemmas" ∷ F ∷ ascii "-" ∷ ascii "7" ∷ []) (Some One) 2 false 7 65536 false true true None
    ∷ with_files (ascii "one" ∷ F ∷ ascii "9" ∷ ascii "--marks" ∷ ascii "--lemmas" ∷ F ∷ []) (Some One) 2 true 9 65536 false true false None
    ∷ with_files (ascii "one" ∷ ascii "-" ∷ ascii "--lemmas" ∷ ascii "-" ∷ []) (Some One) 1 false 1000000 65536 true false true (Some TwoInputs)
    ∷ with_files (ascii "one" ∷ ascii "--lemmas" ∷ ascii "-" ∷ ascii "-" ∷ []) (Some One) 0 false 1000000 65536 false true true (Some TwoInputs)
    ∷ with_files (ascii "one" ∷ F ∷ ascii "--lemmas" ∷ []) (Some One) 1 false 1000000 65536 true false false (Some NoLemmaFile)
    ∷ with_files (ascii "one" ∷ ascii "--lemmas" ∷ ascii "--marks" ∷ F ∷ []) (Some One) 0 false 1000000 65536 true false false (Some NoLemmaFile)
    ∷ with_files (ascii "one" ∷ F ∷ ascii "--lemmas" ∷ F ∷ ascii "--lemmas" ∷ []) (Some One) 1 false 1000000 65536 false true false (Some Superfluous)
    ∷ case (ascii "problem" ∷ F ∷ []) (Some Problem) 1 false 1000000 65536 (Some NoLemmas)
    ∷ case (ascii "problem" ∷ []) (Some Problem) 0 false 1000000 65536 (Some NoFile)
    ∷ case (ascii "problem" ∷ F ∷ ascii "7" ∷ []) (Some Problem) 1 false 1000000 65536 (Some Superfluous)
    ∷ case (ascii "problem" ∷ F ∷ ascii "--marks" ∷ []) (Some Problem) 1 false 1000000 65536 (Some Superfluous)
    ∷ case (ascii "--help" ∷ ascii "--lemmas" ∷ F ∷ []) (Some Help) 0 false 1000000 65536 (Some Superfluous)
    ∷ case (ascii "list" ∷ ascii "--marks" ∷ F ∷ ascii "007" ∷ []) (Some Listing) 2 true 7 65536 None
    ∷ case (ascii "one" ∷ F ∷ ascii "--marks" ∷ []) (Some One) 1 true 1000000 65536 None
    ∷ case (ascii "--help" ∷ []) (Some Help) 0 false 1000000 65536 None
    ∷ case (ascii "--version" ∷ []) (Some Version) 0 false 1000000 65536 None
    ∷ case [] None 0 false 1000000 65536 (Some NoJob)
    ∷ case (ascii "frob" ∷ F ∷ []) None 0 false 1000000 65536 (Some Unknown)
    ∷ case (ascii "list" ∷ []) (Some Listing) 0 false 1000000 65536 (Some NoFile)
    ∷ case (ascii "list" ∷ ascii "--marks" ∷ []) (Some Listing) 0 true 1000000 65536 (Some NoFile)
    ∷ case (ascii "one" ∷ F ∷ ascii "12x" ∷ ascii "frob" ∷ []) (Some One) 1 false 1000000 65536 (Some NotANumber)
    ∷ case (ascii "one" ∷ F ∷ [] ∷ []) (Some One) 1 false 1000000 65536 (Some NotANumber)
    ∷ case (ascii "one" ∷ F ∷ ascii "4294967296" ∷ []) (Some One) 1 false 1000000 65536 (Some TooLarge)
    ∷ case (ascii "list" ∷ F ∷ ascii "5" ∷ ascii "1048577" ∷ []) (Some Listing) 2 false 5 65536 (Some TooLarge)
    ∷ case (ascii "one" ∷ F ∷ ascii "12" ∷ ascii "5" ∷ []) (Some One) 2 false 12 65536 (Some Superfluous)
    ∷ case (ascii "check" ∷ F ∷ ascii "--marks" ∷ []) (Some Check) 1 false 1000000 65536 (Some Superfluous)
    ∷ case (ascii "one" ∷ ascii "--budget" ∷ F ∷ []) (Some One) 0 false 1000000 65536 (Some Unknown)
    ∷ []

abbrev orders : List Case → List Order
orders [] = []
orders (c ∷ cs) = order_of c.words ∷ orders cs

abbrev wanted : List Case → List Order
wanted [] = []
wanted (c ∷ cs) = c.gives ∷ wanted cs

cases : orders table ≡ wanted table
unfolding table order_of taken take_word take_open take_option take_marks take_asked take_lemmas take_file take_named take_plain lacking_lemmas lacking_file lacking finished job_of value_after value number_of
cases = refl

-- words as numbers
numbers : (number_of (ascii "99") 99 ∷ number_of (ascii "0099") 99 ∷ number_of (ascii "100") 99 ∷ number_of (ascii "1 2") 99 ∷ number_of [] 99 ∷ [])
    ≡ (Ok 99 ∷ Ok 99 ∷ Err Over ∷ Err Not ∷ Err Not ∷ [])
unfolding value_after value number_of
numbers = refl

-- which word is the file's name: none is the job's, and `--marks` is none
named : (is_file begun (ascii "list")
    ∷ is_file (taken begun (ascii "list" ∷ [])) (ascii "--marks")
    ∷ is_file (taken begun (ascii "list" ∷ ascii "--marks" ∷ [])) (ascii "-")
    ∷ is_file (taken begun (ascii "list" ∷ F ∷ [])) (ascii "12")
    ∷ is_file (taken begun (ascii "frob" ∷ [])) F
    ∷ [])
    ≡ (false ∷ false ∷ true ∷ false ∷ false ∷ [])
unfolding is_file taken take_word take_open take_option take_marks take_asked take_lemmas take_file take_named take_plain job_of value_after value number_of
named = refl

-- which word is the lemma file's name: the one after `--lemmas`
lemmas_named : (is_lemmas (taken begun (ascii "one" ∷ [])) (ascii "--lemmas")
    ∷ is_lemmas (taken begun (ascii "one" ∷ ascii "--lemmas" ∷ [])) F
    ∷ is_file (taken begun (ascii "one" ∷ ascii "--lemmas" ∷ [])) F
    ∷ is_lemmas (taken begun (ascii "one" ∷ ascii "--lemmas" ∷ F ∷ [])) F
    ∷ is_file (taken begun (ascii "one" ∷ ascii "--lemmas" ∷ F ∷ [])) F
    ∷ [])
    ≡ (false ∷ true ∷ false ∷ false ∷ true ∷ [])
unfolding is_file is_lemmas taken take_word take_open take_option take_marks take_asked take_lemmas take_file take_named take_plain job_of value_after value number_of
lemmas_named = refl
