pub mod Replies
pub mod Revision
