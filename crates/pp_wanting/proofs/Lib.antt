pub mod Wantings
