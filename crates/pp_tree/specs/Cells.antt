-- The cells of a book, as its code keeps them: those of all nodes of a tree of at most 21 layers, or none.
use Rattle.std.specs.Prelude.{◌≡◌, ℕ, ◌-◌, ◌^◌, ◌≤◌, Option, List, length}

pub record AreOfTree (cells : List (Option (List ℕ))) : Type 0 where
  pub layers : ℕ
  pub few : layers ≤ 21
  pub size : length cells ≡ 2 ^ layers - 1
