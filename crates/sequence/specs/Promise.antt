-- What the roll's functions promise, as the statements about steps and sequences take it.
use Rattle.std.specs.Prelude.{◌≡◌, List, ℕ}
use Rattle.roll.specs.Answer.{Says}
use Rattle.roll.specs.Roll.{empty_roll, asked, Outcome, taking}
use Rattle.roll.specs.declared.Roll.{Roll}

-- what `roll::take` may make of a roll and a section: the roll after it, and what it says
abbrev pub Promised : Roll → List ℕ → Outcome → Type 0
Promised r s o = o ≡ taking r s

-- what `roll::ask` may say of a roll
abbrev pub PromisedAsked : Roll → Says → Type 0
PromisedAsked r x = x ≡ asked r

-- what `roll::empty` may give
abbrev pub PromisedEmpty : Roll → Type 0
PromisedEmpty r = r ≡ empty_roll
