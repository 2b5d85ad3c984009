-- Bytes made of the fields of a layout: those that it keeps have the values given, the reserved ones what is laid down for them.
use Prim.{Unit}
use Rattle.std.specs.Prelude.{ℕ, ◌-◌, ◌^◌, ◌≡◌, Bool, true, false, List, [], ◌∷◌, ltb, if◌then◌else◌}
use Rattle.wire.specs.Number.{number}
use Rattle.forms.specs.Fields.{Field, kept, reserved, pack, unpack}
use Rattle.layout.specs.Widths.{size}
use Rattle.writing.specs.Number.{ofNumber}

-- "reserved bits were ones (satellite's two under modulation_system 0: zeros)": what is laid down for a reserved field of w bits
abbrev pub ones : ℕ → ℕ
ones w = 2 ^ w - 1

abbrev pub zeros : ℕ → ℕ
zeros w = 0

-- the values of all fields, in the order of the layout
unfoldable pub filled : (ℕ → ℕ) → List Field → List ℕ → List ℕ
filled by [] vs = []
filled by (kept w ∷ fs) [] = []
filled by (kept w ∷ fs) (v ∷ vs) = v ∷ filled by fs vs
filled by (reserved w ∷ fs) vs = by w ∷ filled by fs vs

-- the bytes of a body or an item
unfoldable pub made : (ℕ → ℕ) → List Field → List ℕ → List ℕ
made by fs vs = ofNumber (size fs) (pack fs (filled by fs vs))

-- of the values of all fields: each reserved one has what is laid down for it
abbrev pub Reserved : (ℕ → ℕ) → List Field → List ℕ → Type 0
Reserved by [] vs = Unit {0}
Reserved by (f ∷ fs) [] = Unit {0}
Reserved by (kept w ∷ fs) (v ∷ vs) = Reserved by fs vs
Reserved by (reserved w ∷ fs) (v ∷ vs) = (v ≡ by w) × Reserved by fs vs

-- of the bits of a body or an item
abbrev pub ReservedIn : (ℕ → ℕ) → List Field → List ℕ → Type 0
ReservedIn by fs b = Reserved by fs (unpack fs (number b))

-- as many numbers as limits, and each below its own
unfoldable pub below : List ℕ → List ℕ → Bool
below [] [] = true
below [] (l ∷ ls) = false
below (v ∷ vs) [] = false
below (v ∷ vs) (l ∷ ls) = if ltb v l then below vs ls else false

-- how much each kept field of a layout can hold: its values are below these
abbrev pub capacities : List Field → List ℕ
capacities [] = []
capacities (kept w ∷ fs) = 2 ^ w ∷ capacities fs
capacities (reserved w ∷ fs) = capacities fs
