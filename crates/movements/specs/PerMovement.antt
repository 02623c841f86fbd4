-- Four values, one for each movement in the order left, through, right, access.
use Rattle.std.specs.Prelude.{ℕ, ◌+◌, Bool, ◌&&◌, ◌||◌}
use Rattle.movements.specs.declared.PerMovement.{PerMovement}

-- one whole number for each; a row of four exits for each entry
abbrev pub Counts : Type 0
Counts = PerMovement ℕ

abbrev pub Seeds : Type 0
Seeds = PerMovement Counts

-- whether all four hold; whether one does
abbrev pub all : PerMovement Bool → Bool
all x = ((x.left && x.through) && x.right) && x.access

abbrev pub any : PerMovement Bool → Bool
any x = ((x.left || x.through) || x.right) || x.access

abbrev pub sum : PerMovement ℕ → ℕ
sum x = x.left + x.through + x.right + x.access

-- a table's columns as rows
abbrev pub transposed : {A : Type 0} → PerMovement (PerMovement A) → PerMovement (PerMovement A)
transposed x =
    record {
      left = record { left = x.left.left; through = x.through.left; right = x.right.left; access = x.access.left };
      through = record { left = x.left.through; through = x.through.through; right = x.right.through; access = x.access.through };
      right = record { left = x.left.right; through = x.through.right; right = x.right.right; access = x.access.right };
      access = record { left = x.left.access; through = x.through.access; right = x.right.access; access = x.access.access };
    }
