-- A problem within the limits of document 01.
use Rattle.std.specs.Prelude.{◌+◌, ◌≤◌, List, [], ◌∷◌, length}
use Rattle.meaning.specs.Clauses.{Clause}
use Rattle.meaning.specs.Meaning.{Problem}
use Rattle.meaning.specs.File.{file_most, n_most, m_most, clauses_most, lemmas_most}
use Rattle.meaning.specs.Filed.{file_of}
use Rattle.laws.specs.Within.{WellFormed}

-- each clause has so few literals that its body is 128 bytes at most
abbrev pub Short : List Clause → Type 0
Short [] = Unit {0}
Short (c ∷ cs) = (length c ≤ 64) × Short cs

pub record Fits (p : Problem) : Type 0 where
  pub n_least : 1 ≤ p.n
  pub n_most : p.n ≤ n_most
  pub m_most : p.m ≤ m_most
  pub named : WellFormed p
  pub init_short : Short p.init
  pub tr_short : Short p.tr
  pub bad_short : Short p.bad
  pub lemmas_short : Short p.lemmas
  pub clauses : length p.init + length p.tr + length p.bad + length p.lemmas ≤ clauses_most
  pub lemmas : length p.lemmas ≤ lemmas_most
  pub bytes : length (file_of p) ≤ file_most
