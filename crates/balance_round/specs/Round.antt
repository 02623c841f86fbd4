-- One round of balancing: item 3 of "Metering and shares", equations 30-4 to 30-7.
use Rattle.std.specs.Prelude.{Bool, cond, ◌&&◌, ◌||◌, not, Float}
use Rattle.std.specs.Float.{binary64}
use Rattle.std.specs.Float.Ieee.{sub, lt, eq}
use Rattle.std.specs.Float.Ieee.Scale.{finite}
use Rattle.balance_flows.specs.Flows.{Flows, FlowTable, zero64, all_finite, flows_of, total, weighted, quotients}
use Rattle.balance_round.specs.declared.Round.{Round}

-- one exit's seeds, by entry
abbrev pub exit_column : (Flows → Float) → FlowTable → Flows
exit_column exit p = flows_of (exit p.left) (exit p.through) (exit p.right) (exit p.access)

-- 30-4: Da of each exit is the sum of Oa·p
unfoldable pub destinations : Flows → FlowTable → Flows
destinations o p =
    flows_of
    (weighted o (exit_column (λ row. row.left) p))
    (weighted o (exit_column (λ row. row.through) p))
    (weighted o (exit_column (λ row. row.right) p))
    (weighted o (exit_column (λ row. row.access) p))

-- 30-6: the factor of each entry is the sum of b·p
unfoldable pub factors_of : Flows → FlowTable → Flows
factors_of b p = flows_of (weighted b p.left) (weighted b p.through) (weighted b p.right) (weighted b p.access)

-- the larger minus the smaller
abbrev pub difference : Float → Float → Float
difference x y = cond (lt x y) (sub binary64 y x) (sub binary64 x y)

-- the sum of the four differences of new and old Oa
unfoldable pub change : Flows → Flows → Float
change new old =
    total
    (flows_of
    (difference new.left old.left)
    (difference new.through old.through)
    (difference new.right old.right)
    (difference new.access old.access))

-- n above 0 with 0 to divide it by
abbrev pub no_quotient : Float → Float → Bool
no_quotient n m = lt zero64 n && eq m zero64

unfoldable pub any_no_quotient : Flows → Flows → Bool
any_no_quotient n m =
    ((no_quotient n.left m.left || no_quotient n.through m.through) || no_quotient n.right m.right) || no_quotient n.access m.access

-- the round from the adjusted origins `old`: b is D/Da (30-5), new Oa is O over the factor (30-7), each 0 where its volume is 0
unfoldable pub round_of : Flows → Flows → FlowTable → Flows → Round
round_of o d p old =
    let da = destinations old p in
    let b = quotients d da in
    let factors = factors_of b p in
    let new = quotients o factors in
    record { destinations = da; ratios = b; factors = factors; origins = new; change = change new old }

-- Da = 0 where D > 0, factor 0 where O > 0, or any number not finite, the sum too
unfoldable pub stops : Flows → Flows → Round → Bool
stops o d x =
    (any_no_quotient d x.destinations || any_no_quotient o x.factors)
    || not (((all_finite x.destinations && all_finite x.ratios) && (all_finite x.factors && all_finite x.origins)) && finite x.change)
