-- Laws of where the packets begin, of the sizes of sections, of which can be sent, of a payload's bytes, and of the room.
pub mod TurnLaws
pub mod SizeLaws
pub mod CutLaws
pub mod PayloadLaws
pub mod RoomLaws
pub mod Outcomes
