-- What the readings of the descriptors that are lists say in numbers: 0 and the item, or the refusal's number and zeros.
use Rattle.std.specs.Prelude.{ℕ, pos}
use Rattle.wire.specs.Reading.{value, refused}
use Rattle.clock.specs.Fault.{Answered, number_of}
use Rattle.lists.specs.declared.service_list.Item as ServiceList
use Rattle.lists.specs.declared.content.Item as Content
use Rattle.lists.specs.declared.parental_rating.Item as ParentalRating
use Rattle.lists.specs.declared.local_time_offset.Item as LocalTimeOffset
use Rattle.cabinet.specs.Clock.{moment_says, no_moment}
use Rattle.cabinet.specs.declared.list_readings.CountAnswer.{CountAnswer}
use Rattle.cabinet.specs.declared.list_readings.ServiceListItem.{ServiceListItem}
use Rattle.cabinet.specs.declared.list_readings.ServiceListAnswer.{ServiceListAnswer}
use Rattle.cabinet.specs.declared.list_readings.ContentItem.{ContentItem}
use Rattle.cabinet.specs.declared.list_readings.ContentAnswer.{ContentAnswer}
use Rattle.cabinet.specs.declared.list_readings.ParentalRatingItem.{ParentalRatingItem}
use Rattle.cabinet.specs.declared.list_readings.ParentalRatingAnswer.{ParentalRatingAnswer}
use Rattle.cabinet.specs.declared.list_readings.LocalTimeOffsetItem.{LocalTimeOffsetItem}
use Rattle.cabinet.specs.declared.list_readings.LocalTimeOffsetAnswer.{LocalTimeOffsetAnswer}

-- how many items there are, or the refusal
abbrev pub count_answer : Answered ℕ → CountAnswer
count_answer (value n) = record { number = 0; count = n }
count_answer (refused w) = record { number = number_of w; count = 0 }

-- an item of 0x41 service list; zeros, where there is none; the one or the refusal
abbrev pub service_list_says : ServiceList.Item → ServiceListItem
service_list_says i = record { service_id = i.service_id; service_type = i.service_type }

abbrev pub no_service_list : ServiceListItem
no_service_list = record { service_id = 0; service_type = 0 }

abbrev pub service_list_answer : Answered ServiceList.Item → ServiceListAnswer
service_list_answer (value i) = record { number = 0; item = service_list_says i }
service_list_answer (refused w) = record { number = number_of w; item = no_service_list }

-- an item of 0x54 content; zeros, where there is none; the one or the refusal
abbrev pub content_says : Content.Item → ContentItem
content_says i = record {
  content_nibble_level_1 = i.content_nibble_level_1;
  content_nibble_level_2 = i.content_nibble_level_2;
  user_byte = i.user_byte;
}

abbrev pub no_content : ContentItem
no_content = record { content_nibble_level_1 = 0; content_nibble_level_2 = 0; user_byte = 0 }

abbrev pub content_answer : Answered Content.Item → ContentAnswer
content_answer (value i) = record { number = 0; item = content_says i }
content_answer (refused w) = record { number = number_of w; item = no_content }

-- an item of 0x55 parental rating; zeros, where there is none; the one or the refusal
abbrev pub parental_rating_says : ParentalRating.Item → ParentalRatingItem
parental_rating_says i = record { country_code = i.country_code; rating = i.rating }

abbrev pub no_parental_rating : ParentalRatingItem
no_parental_rating = record { country_code = 0; rating = 0 }

abbrev pub parental_rating_answer : Answered ParentalRating.Item → ParentalRatingAnswer
parental_rating_answer (value i) = record { number = 0; item = parental_rating_says i }
parental_rating_answer (refused w) = record { number = number_of w; item = no_parental_rating }

-- an item of 0x58 local time offset; zeros, where there is none; the one or the refusal
abbrev pub local_time_offset_says : LocalTimeOffset.Item → LocalTimeOffsetItem
local_time_offset_says i = record {
  country_code = i.country_code;
  country_region_id = i.country_region_id;
  local_time_offset = i.local_time_offset;
  time_of_change = moment_says i.time_of_change;
  next_time_offset = i.next_time_offset;
}

abbrev pub no_local_time_offset : LocalTimeOffsetItem
no_local_time_offset = record {
  country_code = 0;
  country_region_id = 0;
  local_time_offset = pos 0;
  time_of_change = no_moment;
  next_time_offset = pos 0;
}

abbrev pub local_time_offset_answer : Answered LocalTimeOffset.Item → LocalTimeOffsetAnswer
local_time_offset_answer (value i) = record { number = 0; place = 0; digit = 0; item = local_time_offset_says i }
local_time_offset_answer (refused w) = record { number = w.number; place = w.place; digit = w.digit; item = no_local_time_offset }
