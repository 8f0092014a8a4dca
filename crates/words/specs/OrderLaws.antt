-- Laws of orders: a fault stays, whatever words follow; no space is over the largest.
use Rattle.std.specs.Prelude.{ℕ, ◌≤◌, ◌≡◌, Bool, cond, List, [], ◌∷◌, ◌++◌, eqb, ltb, Option, None, Some, Result, Ok, Err}
use Rattle.std.proofs.Math.Path.{refl}
use Rattle.std.proofs.Common.{ap, ◌∙◌, arith, ltb-false}
use Rattle.std.proofs.Math.Bool.{true, false}
use Rattle.text.specs.Ascii.{ascii}
use Rattle.spelling.specs.Words.{same, is_option}
use Rattle.spelling.specs.Numbers.{is_number, value, up_to, number_of}
use Rattle.spelling.specs.declared.number.NumberFault.{NumberFault}
use Rattle.spelling.specs.declared.number.NumberFault.TheVariants.{Over, Not}
use Rattle.words.specs.declared.order.Job.{Job}
use Rattle.words.specs.declared.order.Order.{Order}
use Rattle.words.specs.Orders.{budget_most, space_most, begun, faulty, awaited, most_words, job_of, with_budget, with_space}
use Rattle.words.specs.Orders.{is_input, take_job, take_marks, take_asked, take_option, take_file, take_lemmas, take_named, take_plain}
use Rattle.words.specs.Orders.{take_open, take_word, needs_lemmas, lacking_lemmas, lacking_file, lacking, finished, taken, order_of}

-- After a fault nothing changes: not by one word,
pub fault_kept : (o : Order) (w : List ℕ) → faulty o.fault ≡ true → take_word o w ≡ o
unfolding take_word
fault_kept o w h = rw h

-- not by any words,
pub fault_stays : (o : Order) (ws : List (List ℕ)) → faulty o.fault ≡ true → taken o ws ≡ o
unfolding taken
fault_stays o [] h = refl
fault_stays o (w ∷ ws) h = ap (λ (p : Order). taken p ws) (fault_kept o w h) ∙ fault_stays o ws h

-- and not at the end.
pub fault_told : (o : Order) (ws : List (List ℕ)) → faulty o.fault ≡ true → finished (taken o ws) ≡ o
unfolding finished
fault_told o ws h = ap finished (fault_stays o ws h) ∙ (rw h)

-- So the first fault of a command line is the one that is told.
pub taken_both : (o : Order) (a b : List (List ℕ)) → taken o (a ++ b) ≡ taken (taken o a) b
unfolding taken
taken_both o [] b = refl
taken_both o (w ∷ a) b = taken_both (take_word o w) a b

pub first_fault : (a b : List (List ℕ)) → faulty (taken begun a).fault ≡ true → order_of (a ++ b) ≡ taken begun a
unfolding order_of
first_fault a b h = ap finished (taken_both begun a b) ∙ fault_told (taken begun a) b h

-- No order takes more space than the largest.
record Fits (o : Order) : Type 0 where
  fits : o.space ≤ space_most

either : (b : Bool) {p q : Order} → Fits p → Fits q → Fits (cond b p q)
either true hp hq = hp
either false hp hq = hq

module _ (o : Order) (h : Fits o) where
  same_space : {p : Order} → p.space ≡ o.space → Fits p
  same_space e = record { fits = rw e h.fits }

  budget_fits : (n : Result ℕ NumberFault) → Fits (with_budget o n)
  budget_fits (Ok n) = same_space refl
  budget_fits (Err e) = same_space refl

  value_fits : (v : ℕ) (b : Bool) → ltb space_most v ≡ b → Fits (with_space o (cond b (Err Over) (Ok v)))
  value_fits v true e = same_space refl
  value_fits v false e = record { fits = ltb-false space_most v e }

  number_fits : (w : List ℕ) (b : Bool) → Fits (with_space o (cond b (up_to space_most (value w)) (Err Not)))
  number_fits w true = value_fits (value w) (ltb space_most (value w)) refl
  number_fits w false = same_space refl

  file_fits : (w : List ℕ) → Fits (take_file o w)
  unfolding take_file
  file_fits w = either (is_input w) (either o.input (same_space refl) (same_space refl)) (same_space refl)

  named_fits : (w : List ℕ) → Fits (take_named o w)
  unfolding take_named number_of
  named_fits w =
      either (eqb o.named 0) (file_fits w)
      (either (eqb o.named 1) (budget_fits (number_of w budget_most)) (number_fits w (is_number w)))

  option_fits : (w : List ℕ) → Fits (take_option o w)
  unfolding take_option take_marks take_asked
  option_fits w =
      either (same w (ascii "--marks")) (either (ltb 1 (most_words o.job)) (same_space refl) (same_space refl))
      (either (same w (ascii "--lemmas"))
      (either o.lemmas (same_space refl) (either (ltb 0 (most_words o.job)) (same_space refl) (same_space refl)))
      (same_space refl))

  lemmas_fits : (w : List ℕ) → Fits (take_lemmas o w)
  unfolding take_lemmas
  lemmas_fits w =
      either (is_option w) (same_space refl)
      (either (is_input w) (either o.input (same_space refl) (same_space refl)) (same_space refl))

  job_fits : (j : Option Job) → Fits (take_job o j)
  job_fits None = same_space refl
  job_fits (Some j) = same_space refl

  plain_fits : (w : List ℕ) → Fits (take_plain o w)
  unfolding take_plain
  plain_fits w = either (ltb o.named (most_words o.job)) (named_fits w) (same_space refl)

  word_fits : (w : List ℕ) → Fits (take_word o w)
  unfolding take_word take_open
  word_fits w =
      either (faulty o.fault) h
      (either (awaited o.job) (job_fits (job_of w))
      (either o.awaiting (lemmas_fits w) (either (is_option w) (option_fits w) (plain_fits w))))

  end_fits : Fits (finished o)
  unfolding finished lacking lacking_file lacking_lemmas
  end_fits =
      either (faulty o.fault) h
      (either (awaited o.job) (same_space refl)
      (either o.awaiting (same_space refl)
      (either (eqb o.named 0) (either (ltb 0 (most_words o.job)) (same_space refl) h)
      (either o.lemmas h (either (needs_lemmas o.job) (same_space refl) h)))))

taken_fits : (o : Order) (ws : List (List ℕ)) → Fits o → Fits (taken o ws)
unfolding taken
taken_fits o [] h = h
taken_fits o (w ∷ ws) h = taken_fits (take_word o w) ws (word_fits o h w)

pub space_fits : (ws : List (List ℕ)) → (order_of ws).space ≤ space_most
unfolding order_of
space_fits ws = (end_fits (taken begun ws) (taken_fits begun ws (record { fits = omega arith }))).fits
