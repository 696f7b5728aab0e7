pub mod TranscriptLaws
