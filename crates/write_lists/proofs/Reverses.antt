-- "Reading back gives the fields; writing what was read gives the bytes": the writers of lists are the reverses of
-- their readings.
use Prim.{Unit, tt}
use mathlib.Core.List.{List}
use Prim.Native.Nat.{ℕ}
use lib.IntN.{ℤ}
use Rattle.wire.specs.Reading.{Reading}
use Rattle.forms.specs.Fields.{Field}
use Rattle.clock.specs.Fault.{Answered}
use Rattle.layout.specs.Items.{count}
use Rattle.layout.specs.Widths.{size}
use Rattle.lists.specs.ServiceList as service
use Rattle.lists.specs.Content as content
use Rattle.lists.specs.ParentalRating as rating
use Rattle.writing.specs.Fill.{ones, made}
use Rattle.writing.specs.Reverse.{Reverse}
use Rattle.write_lists.specs.Lists.{list_of, rows_read, UsualItems}
use Rattle.write_lists.specs.ServiceList as services
use Rattle.write_lists.specs.Content as contents
use Rattle.write_lists.specs.ParentalRating as ratings
use Rattle.write_lists.specs.LocalTimeOffset as offsets
use Rattle.write_lists.proofs.RowReadings.{piece_of}
use Rattle.write_lists.proofs.ItemLists.{reverse}
use Rattle.write_lists.proofs.PlainItems.{PlainRows, service_rows, content_rows, rating_rows}
use Rattle.write_lists.proofs.OffsetItems.{offset_rows}

plain_reverse : {A : Type 0} {tag k : ℕ} {fs : List Field} {item : List ℤ → Reading A} {row : A → List ℤ}
    {read : List ℕ → ℕ → Answered A} {shown : A → List ℕ}
    → PlainRows tag k fs item row read shown
    → Reverse (λ (zs : List ℤ). Unit {0}) (λ s. rows_read row (count s tag (size fs)) (read s))
    (list_of tag k (piece_of (λ a. made ones fs (shown a)) item)) (UsualItems fs)
plain_reverse laws =
    let r = reverse laws in
    record {
      reads_back = r.reads_back;
      writes_back = λ s zs bytes u e. r.writes_back s zs bytes (u, λ _ _. tt) e;
      usual = λ zs s l e. (r.usual zs s l e).0;
      bytes = r.bytes;
      lent = r.lent;
      written = r.written;
      numbers = r.numbers;
    }

pub services_reverse : Reverse (λ (zs : List ℤ). Unit {0}) services.service_list_read services.service_list_written
    (UsualItems service.layout)
unfolding services.service_list_read services.service_list_written services.piece
services_reverse = plain_reverse service_rows

pub contents_reverse : Reverse (λ (zs : List ℤ). Unit {0}) contents.content_read contents.content_written
    (UsualItems content.layout)
unfolding contents.content_read contents.content_written contents.piece
contents_reverse = plain_reverse content_rows

pub ratings_reverse : Reverse (λ (zs : List ℤ). Unit {0}) ratings.parental_rating_read ratings.parental_rating_written
    (UsualItems rating.layout)
unfolding ratings.parental_rating_read ratings.parental_rating_written ratings.piece
ratings_reverse = plain_reverse rating_rows

pub offsets_reverse : Reverse (λ (zs : List ℤ). Unit {0}) offsets.local_time_offset_read offsets.local_time_offset_written
    offsets.Usual
unfolding offsets.local_time_offset_read offsets.local_time_offset_written offsets.piece
offsets_reverse = reverse offset_rows
