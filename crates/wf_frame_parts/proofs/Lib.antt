pub mod FrameParts
