-- 0x42 stuffing, written: EN 300 468, clause 6.2.40.
use Rattle.std.specs.Prelude.{List, ℕ}
use Rattle.wire.specs.Reading.{Reading}
use Rattle.clock.specs.Fault.{Answered}
use Rattle.texts.specs.Stuffing.{stuffing}
use Rattle.writing.specs.Written.{headed}
use Rattle.write_texts.specs.Texts.{text_of}

-- "The stuffing descriptor keeps its body as given": the tag 0x42, the length, and the bytes
unfoldable pub stuffing_written : List ℕ → Reading (List ℕ)
stuffing_written bytes = headed 0x42 bytes

-- the bytes that a descriptor is read as
unfoldable pub stuffing_read : List ℕ → Answered (List ℕ)
stuffing_read s = text_of s (stuffing s)
