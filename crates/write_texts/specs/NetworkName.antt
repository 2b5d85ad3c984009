-- 0x40 network name, written: EN 300 468, clause 6.2.27.
use Rattle.std.specs.Prelude.{List, ℕ}
use Rattle.wire.specs.Reading.{Reading}
use Rattle.clock.specs.Fault.{Answered}
use Rattle.texts.specs.NetworkName.{network_name}
use Rattle.writing.specs.Written.{headed}
use Rattle.write_texts.specs.Texts.{text_of}

-- the tag 0x40, the length, and the name
unfoldable pub network_name_written : List ℕ → Reading (List ℕ)
network_name_written name = headed 0x40 name

-- the name that a descriptor is read as
unfoldable pub name_read : List ℕ → Answered (List ℕ)
name_read s = text_of s (network_name s)
