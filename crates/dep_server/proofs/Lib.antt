mod CalmLemmas
mod StreamLemmas
mod StepsKeep
mod SoundLemmas
mod RunKeeps
mod UploadsKept
mod SegmentsStay
mod MovesLead
mod UntilEnded
mod FilesStay
mod UploadsStay
mod Refusing
mod HeadOnlyLemmas
mod HeadLemmas
pub mod Acknowledging
mod TakenAgain
pub mod CallsStand
