-- What it is to turn a value from one form into another, at a place of a slice and a place of a room.
use Rattle.std.specs.Prelude.{ℕ, ◌+◌, ◌≤◌, ◌≡◌, List, length}
use Rattle.wire.specs.Parts.{Part}
use Rattle.forms.specs.Form.{Form}
use Rattle.forms.specs.Room.{put}
use Rattle.forms.specs.declared.Place.{Place}

-- x was read at p's first place, u was put into the room o at its second; q has the places behind both
pub record Done (p : Place) (x u o : List ℕ) (q : Place) (o' : List ℕ) : Type 0 where
  pub room : o' ≡ put o p.to u
  pub read : q.at ≡ p.at + length x
  pub written : q.to ≡ p.to + length u

-- Where s has a value in the form c at p's first place, and the room o has place for it, the room gets it in the form d at p's second place.
pub record Turned {A : Type 0} (c d : Form A) (s : List ℕ) (p : Place) (o : List ℕ) (q : Place) (o' : List ℕ) : Type 0 where
  pub turned : (a : A) → c.Ok a → Part s p.at (c.show a) → p.to + length (d.show a) ≤ length o → Done p (c.show a) (d.show a) o q o'
