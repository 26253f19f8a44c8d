mod BookLaws
mod DoorLaws
mod QueueLaws
mod ShareLaws
