-- The fields of the descriptors that hold texts, as a reading gives them to C: the texts are parts of bytes that are lent.
use Rattle.std.specs.Prelude.{Bool, not, List, ℕ, ◌+◌, ltb, length, take, drop, if◌then◌else◌}
use Rattle.wire.specs.Reading.{Reading, value, refused, ◌>>=◌}
use Rattle.cabinet.specs.declared.text_readings.Part.{Part}
use Rattle.cabinet.specs.declared.text_readings.Service.{Service}
use Rattle.cabinet.specs.declared.text_readings.ShortEvent.{ShortEvent}
use Rattle.write_texts.specs.NetworkName.{network_name_written}
use Rattle.write_texts.specs.Stuffing.{stuffing_written}
use Rattle.write_texts.specs.Service as service
use Rattle.write_texts.specs.ShortEvent as event

-- the part lies in the bytes: it does not reach past their end
abbrev pub lies_in : List ℕ → Part → Bool
lies_in bytes p = not (ltb (length bytes) (p.start + p.size))

-- its bytes
abbrev pub text_of : List ℕ → Part → List ℕ
text_of bytes p = take p.size (drop p.start bytes)

-- 112 for one that does not
unfoldable pub text : List ℕ → Part → Reading (List ℕ)
text bytes p = if lies_in bytes p then value (text_of bytes p) else refused 112

-- 0x40 network name
unfoldable pub name_given : List ℕ → Part → Reading (List ℕ)
name_given bytes p = text bytes p >>= network_name_written

-- 0x42 stuffing
unfoldable pub stuffing_given : List ℕ → Part → Reading (List ℕ)
stuffing_given bytes p = text bytes p >>= stuffing_written

-- 0x48 service
unfoldable pub service_given : List ℕ → Service → Reading (List ℕ)
service_given bytes c = do
  provider ← text bytes c.service_provider_name
  name ← text bytes c.service_name
  service.service_written (record { service_type = c.service_type; service_provider_name = provider; service_name = name })

-- 0x4D short event
unfoldable pub short_event_given : List ℕ → ShortEvent → Reading (List ℕ)
short_event_given bytes c = do
  name ← text bytes c.event_name
  description ← text bytes c.text
  event.short_event_written (record { language_code = c.language_code; event_name = name; text = description })
