-- Two numbers compared, and a sum of three compared with a fourth, digit by digit from the right.
use Rattle.std.specs.Prelude.{ℕ, ◌+◌, ◌*◌, ◌/◌, ◌%◌, ◌≤◌, ◌<◌, ◌≡◌, refl, ◌⊎◌, Bool, true, false, cond, ltb, eqb}
use Rattle.std.proofs.Common.{arith, add-mul, mul_assoc, mul-le-mul_right, zero-mul, one-mul, div-add-mod', mod-lt, sym, ap, ◌∙◌, inl, inr, lt-ltb, le-ltb, eq-eqb, ne_eqb, ltb-true, ltb-false, eqb-true}
use Rattle.std.proofs.lemmas.Bool.{eqb-false}
use Rattle.laws.specs.Basics.{bool_cases}
use Rattle.lines.specs.Tails.{ten}
use Rattle.std.specs.declared.cmp.Ordering.{Ordering}
use Rattle.std.specs.declared.cmp.Ordering.TheVariants.{Less, Equal, Greater}
use Rattle.std.specs.Ordering.{ordering_then, nat_cmp}
use Rattle.std.proofs.lemmas.Bool.Decides.{nat_tests}

-- which of two numbers is less
unfoldable pub order : ℕ → ℕ → Ordering
order a b = cond (ltb a b) Less (cond (eqb a b) Equal Greater)

pub order_less : (a b : ℕ) → a < b → order a b ≡ Less
unfolding order
order_less a b h = rw (lt-ltb a b h)

pub order_same : (a b : ℕ) → a ≡ b → order a b ≡ Equal
unfolding order
order_same a b h = rw (le-ltb a b (omega (arith, h)), eq-eqb a b h)

pub order_more : (a b : ℕ) → b < a → order a b ≡ Greater
unfolding order
order_more a b h =
    let least : b ≤ a = omega arith in
    rw (le-ltb a b least, ne_eqb a b (λ e. omega (arith, e)))

-- which of the three it is
pub order_cases : (a b : ℕ) → (a < b) ⊎ ((a ≡ b) ⊎ (b < a))
order_cases a b = go (bool_cases (ltb a b)) (bool_cases (eqb a b))
  where
    go : (ltb a b ≡ true) ⊎ (ltb a b ≡ false) → (eqb a b ≡ true) ⊎ (eqb a b ≡ false) → (a < b) ⊎ ((a ≡ b) ⊎ (b < a))
    go (inl t) u = inl (ltb-true a b t)
    go (inr t) (inl u) = inr (inl (eqb-true a b u))
    go (inr t) (inr u) = let least = ltb-false a b t in let other = eqb-false a b u in inr (inr (more least other))
      where
        more : b ≤ a → (a ≡ b → ⊥) → b < a
        more least other = omega arith

-- the order of two numbers is that of the same amount more
pub order_shift : (k a b : ℕ) → order (k + a) (k + b) ≡ order a b
order_shift k a b = go (order_cases a b)
  where
    go : (a < b) ⊎ ((a ≡ b) ⊎ (b < a)) → order (k + a) (k + b) ≡ order a b
    go (inl h) = order_less (k + a) (k + b) (omega arith) ∙ sym (order_less a b h)
    go (inr (inl h)) = order_same (k + a) (k + b) (omega (arith, h)) ∙ sym (order_same a b h)
    go (inr (inr h)) = order_more (k + a) (k + b) (omega arith) ∙ sym (order_more a b h)

-- As far as p digits from the right are read: the sum so far is `carry` times ten to the p and a rest, and `seen` is how the rest compares.
pub record Compared (sum m : ℕ) (P carry : ℕ) (seen : Ordering) : Type 0 where
  pub rest : ℕ
  pub is : sum ≡ carry * P + rest
  pub small : rest < P
  pub m_small : m < P
  pub order_is : seen ≡ order rest m

-- what is seen when two digits are compared
unfoldable pub next_seen : ℕ → ℕ → Ordering → Ordering
next_seen low d seen = cond (ltb low d) Less (cond (ltb d low) Greater seen)

-- as the code has it: by the digits, and where they are equal by what was seen
pub then_seen : (low d : ℕ) (seen : Ordering) → ordering_then (nat_cmp low d) seen ≡ next_seen low d seen
unfolding next_seen
then_seen low d seen = grind (arith, nat_tests)

-- nothing is read yet
pub compared_none : (carry : ℕ) → Compared (0 + 0 + 0 + carry) 0 (ten 0) carry Equal
unfolding ten
compared_none carry =
    record { rest = 0; is = omega arith; small = omega arith; m_small = omega arith; order_is = sym (order_same 0 0 refl) }

-- a digit more of each: s is the sum of the three digits, d that of the fourth number
pub compared_more : (sum m P carry : ℕ) (seen : Ordering) (s d : ℕ) → Compared sum m P carry seen → d ≤ 9
    → Compared (s * P + sum) (d * P + m) (10 * P) ((s + carry) / 10) (next_seen ((s + carry) % 10) d seen)
unfolding next_seen
compared_more sum m P carry seen s d c nine =
    record {
      rest = low * P + rest;
      is = is_more;
      small = omega (arith, mul-le-mul_right P low_nine, c.small);
      m_small = omega (arith, mul-le-mul_right P nine, c.m_small);
      order_is = seen_more (ltb low d) (ltb d low) refl refl;
    }
  where
    t : ℕ
    t = s + carry

    low : ℕ
    low = t % 10

    rest : ℕ
    rest = c.rest

    low_nine : low ≤ 9
    low_nine = let below : t % 10 < 10 = mod-lt t (omega arith) in omega arith

    is_more : s * P + sum ≡ t / 10 * (10 * P) + (low * P + rest)
    is_more =
        let spread = add-mul s carry P in
        let whole = ap (λ (k : ℕ). k * P) (div-add-mod' t 10) in
        let parts = add-mul (t / 10 * 10) low P in
        let tens = mul_assoc (t / 10) 10 P in
        omega (arith, c.is, spread, whole, parts, tens)

    seen_more : (less more : Bool) → ltb low d ≡ less → ltb d low ≡ more
        → cond less Less (cond more Greater seen) ≡ order (low * P + rest) (d * P + m)
    seen_more true more t' u =
        let above = mul-le-mul_right P (up (ltb-true low d t')) in
        sym (order_less (low * P + rest) (d * P + m) (omega (arith, above, add-mul low 1 P, one-mul P, c.small)))
      where
        up : low < d → low + 1 ≤ d
        up h = omega arith
    seen_more false true t' u =
        let above = mul-le-mul_right P (up (ltb-true d low u)) in
        sym (order_more (low * P + rest) (d * P + m) (omega (arith, above, add-mul d 1 P, one-mul P, c.m_small)))
      where
        up : d < low → d + 1 ≤ low
        up h = omega arith
    seen_more false false t' u =
        let same = both (ltb-false low d t') (ltb-false d low u) in
        c.order_is ∙ sym (order_shift (d * P) rest m) ∙ ap (λ (k : ℕ). order (k * P + rest) (d * P + m)) (sym same)
      where
        both : d ≤ low → low ≤ d → low ≡ d
        both h g = omega arith

-- all digits are read
pub compared_over : (sum m P carry : ℕ) (seen : Ordering) → Compared sum m P carry seen → 0 < carry → Greater ≡ order sum m
compared_over sum m P carry seen c h =
    let least = mul-le-mul_right P h in
    sym (order_more sum m (omega (arith, c.is, c.m_small, least, one-mul P)))

pub compared_all : (sum m P carry : ℕ) (seen : Ordering) → Compared sum m P carry seen → carry ≡ 0 → seen ≡ order sum m
compared_all sum m P carry seen c e =
    c.order_is ∙ ap (λ (k : ℕ). order k m) (omega (arith, c.is, ap (λ (k : ℕ). k * P) e, zero-mul P))
