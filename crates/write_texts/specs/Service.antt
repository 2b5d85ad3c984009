-- 0x48 service, written: EN 300 468, clause 6.2.33. The layout is that of the reading.
use Rattle.std.specs.Prelude.{List, [], ◌∷◌, ◌++◌, ℕ}
use Rattle.wire.specs.Bytes.{Bytes}
use Rattle.wire.specs.Reading.{Reading, value, ◌>>=◌}
use Rattle.clock.specs.Fault.{Answered}
use Rattle.layout.specs.Refusal.{bytes_of}
use Rattle.texts.specs.Service.{layout, service}
use Rattle.writing.specs.Fill.{ones, made, below, capacities}
use Rattle.writing.specs.Written.{inside, headed}
use Rattle.write_texts.specs.Texts.{two_texts}

-- what is written: the number, and the bytes of both names
pub record Fields : Type 0 where
  pub service_type : ℕ
  pub service_provider_name : List ℕ
  pub service_name : List ℕ

-- a caller lends bytes
abbrev pub Lent : Fields → Type 0
Lent f = Bytes f.service_provider_name × Bytes f.service_name

-- what stands in front of the names, as numbers
abbrev pub numbers : Fields → List ℕ
numbers f = f.service_type ∷ []

-- the tag 0x48, the length, and the body
unfoldable pub service_written : Fields → Reading (List ℕ)
service_written f =
    inside (below (numbers f) (capacities layout)) (made ones layout (numbers f) ++ two_texts f.service_provider_name f.service_name)
    >>= headed 0x48

-- what a descriptor is read as
unfoldable pub service_read : List ℕ → Answered Fields
service_read s = service s >>= λ f. value (record {
  service_type = f.service_type;
  service_provider_name = bytes_of s f.service_provider_name;
  service_name = bytes_of s f.service_name;
})
