pub mod Mailboxes
mod PieceLaws
mod StackLaws
