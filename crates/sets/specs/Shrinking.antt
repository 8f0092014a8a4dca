-- The one set, one position at a time.
use Prim.Native.Nat.{ℕ, suc, ◌+◌, ◌-◌, ◌≤◌, ◌<◌}
use Rattle.std.specs.Prelude.{◌≡◌, refl, Bool, not, Ok, Err}
use Rattle.std.proofs.Math.Path.{sym, ap, ap₂, subst⁻¹}
use Rattle.std.proofs.Common.{◌∙◌, add-one}
use Rattle.std.proofs.Math.Bool.{true, false}
use native.Mathlib.Omega.{arith}
use Rattle.std.specs.declared.result.Result.{Result}
use Rattle.search.specs.declared.Spent.{Spent}
use Rattle.meaning.specs.Meaning
use Rattle.meaning.specs.Meaning.{has}
use Rattle.meaning.specs.Rules.{Question, Answer, Counted, plus, safety, reduced, shrink, shrink_at, becomes}
use Rattle.search.specs.declared.Marks.{Marks}
use Rattle.sets.specs.Asks.{marks_at}
use Rattle.sets.specs.declared.rounds.Kept.{Kept}
use Rattle.sets.specs.declared.picks.Judged.{Judged}
use Rattle.sets.specs.Forms.{KeptIs}
use Rattle.sets.specs.Keeping.{plus_plus, plus_none}
use Rattle.sets.specs.Judging.{judged_count, JudgedIs, reduced_count, reduced_sat}

module _ (ask : Meaning.Marks → Question → Answer) where
  -- u decisions were used, and what is left to do is to shrink S from the position q on
  abbrev pub ShrinkLeft : ℕ → Meaning.Marks → ℕ → ℕ → Meaning.Marks → Type 0
  ShrinkLeft k L u q S = shrink ask k 0 L ≡ plus u (shrink ask (k - q) q S)

  -- after the positions before q: what was kept so far, within the budget
  pub record ShrunkUpto (k left : ℕ) (L : Meaning.Marks) (q : ℕ) (r : Kept) : Type 0 where
    pub fits : r.used ≤ left
    pub rest : ShrinkLeft k L r.used q (marks_at k r.set)

  -- after one position more: the budget is used up, and then it is less than the shrinking wants, or r is what was done
  abbrev pub ShrunkNext : ℕ → ℕ → Meaning.Marks → ℕ → Result Kept Spent → Type 0
  ShrunkNext k left L q (Ok r) = ShrunkUpto k left L q r
  ShrunkNext k left L q (Err s) = left < (shrink ask k 0 L).count

  pub shrink_start : (k left : ℕ) (s : Marks)
      → ShrunkUpto k left (marks_at k s) 0 (record { set = s; used = 0 })
  shrink_start k left s =
      record {
        fits = omega arith;
        rest =
            sym (plus_none (shrink ask k 0 (marks_at k s)))
            ∙ ap (λ (n : ℕ). plus 0 (shrink ask n 0 (marks_at k s))) (whole k);
      }
    where
      whole : (n : ℕ) → n ≡ n - 0
      whole n = omega arith

  -- one position of the definition
  module _ (k q : ℕ) (S : Meaning.Marks) (here : q < k) where
    shrink_here : shrink ask (k - q) q S ≡ shrink_at ask (has S q) (shrink ask (k - suc q) (suc q)) q S
    unfolding shrink
    shrink_here = ap (λ (n : ℕ). shrink ask n q S) one_less
      where
        one_less : k - q ≡ suc (k - suc q)
        one_less = omega arith

    shrink_out : has S q ≡ false → shrink ask (k - q) q S ≡ shrink ask (k - suc q) (suc q) S
    unfolding shrink_at
    shrink_out e = shrink_here ∙ ap (λ (b : Bool). shrink_at ask b (shrink ask (k - suc q) (suc q)) q S) e

    shrink_in : has S q ≡ true
        → shrink ask (k - q) q S
        ≡ plus (judged_count ask (reduced ask q S))
        (shrink ask (k - suc q) (suc q) (becomes ask (ask (reduced ask q S).marks safety).sat S (reduced ask q S).marks))
    unfolding shrink_at
    shrink_in e =
        shrink_here ∙ ap (λ (b : Bool). shrink_at ask b (shrink ask (k - suc q) (suc q)) q S) e
        ∙ ap₂ (λ (n : ℕ) (b : Bool). plus n (shrink ask (k - suc q) (suc q) (becomes ask b S (reduced ask q S).marks)))
        (reduced_count ask q S)
        (reduced_sat ask q S)

  module _ (k left : ℕ) (L : Meaning.Marks) (q : ℕ) (here : q < k) (r : Kept) (done : ShrunkUpto k left L q r) where
    pub shrink_skip : has (marks_at k r.set) q ≡ false → ShrunkUpto k left L (suc q) r
    shrink_skip e =
        record {
          fits = done.fits;
          rest = done.rest ∙ ap (plus r.used) (shrink_out k q (marks_at k r.set) here e);
        }

    module _ (in_set : has (marks_at k r.set) q ≡ true) where
      abbrev on : Bool → Counted
      on b =
          shrink ask (k - suc q) (suc q)
          (becomes ask b (marks_at k r.set) (reduced ask q (marks_at k r.set)).marks)

      tried : shrink ask k 0 L
          ≡ plus (r.used + judged_count ask (reduced ask q (marks_at k r.set)))
          (on (ask (reduced ask q (marks_at k r.set)).marks safety).sat)
      tried = done.rest ∙ ap (plus r.used) (shrink_in k q (marks_at k r.set) here in_set) ∙ plus_plus r.used _ _

      pub shrink_spent : left - r.used < judged_count ask (reduced ask q (marks_at k r.set)) → left < (shrink ask k 0 L).count
      unfolding plus
      shrink_spent over = omega (arith, ap (λ (c : Counted). c.count) tried, over, done.fits)

      module _ (x : Judged) (is : JudgedIs ask k (left - r.used) (reduced ask q (marks_at k r.set)) (Ok x)) where
        pub shrink_used : r.used + x.used ≤ left
        shrink_used = omega (arith, is.0.used, is.1, done.fits)

        went_on : (b : Bool) → x.safe ≡ not b → shrink ask k 0 L ≡ plus (r.used + x.used) (on b)
        went_on b safe =
            tried
            ∙ ap₂ (λ (n : ℕ) (c : Bool). plus (r.used + n) (on c)) (sym is.0.used)
            (not_same _ b (sym is.0.safe ∙ safe))
          where
            not_same : (a c : Bool) → not a ≡ not c → a ≡ c
            not_same true true h = refl
            not_same false false h = refl
            not_same true false h = sym h
            not_same false true h = sym h

        pub shrink_kept : x.safe ≡ false → ShrunkUpto k left L (suc q) (record { set = r.set; used = r.used + x.used })
        unfolding becomes
        shrink_kept safe = record { fits = shrink_used; rest = went_on true safe }

        pub shrink_became : x.safe ≡ true → ShrunkUpto k left L (suc q) (record { set = x.set; used = r.used + x.used })
        unfolding becomes
        shrink_became safe =
            record {
              fits = shrink_used;
              rest =
                  went_on false safe
                  ∙ ap (λ (S : Meaning.Marks). plus (r.used + x.used) (shrink ask (k - suc q) (suc q) S)) (sym is.0.marks);
            }

  module _ (k left : ℕ) (L : Meaning.Marks) (r : Kept) where
    pub shrunk_upto : (q : ℕ) → ShrunkUpto k left L (suc q) r → ShrunkUpto k left L (q + 1) r
    shrunk_upto q next = subst⁻¹ (λ (n : ℕ). ShrunkUpto k left L n r) (add-one q) next

    pub shrunk_end : (q : ℕ) → q ≡ k → ShrunkUpto k left L q r → KeptIs k left (shrink ask k 0 L) (Ok r)
    unfolding shrink plus
    shrunk_end q e done =
        let none_left : k - q ≡ 0 = omega arith in
        let all_done : shrink ask k 0 L ≡ record { marks = marks_at k r.set; count = r.used + 0 } =
        done.rest ∙ ap (λ (n : ℕ). plus r.used (shrink ask n q (marks_at k r.set))) none_left in
        let counted : (shrink ask k 0 L).count ≡ r.used + 0 = ap (λ (c : Counted). c.count) all_done in (
          record { used = omega (arith, counted); marks = sym (ap (λ (c : Counted). c.marks) all_done) },
          omega (arith, counted, done.fits),
        )
