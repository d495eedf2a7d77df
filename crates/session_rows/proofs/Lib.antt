mod Digits
mod FewBytes
mod Known
mod Received
mod Sums
mod TypedSession
mod Uses
