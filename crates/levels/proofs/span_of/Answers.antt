-- `levels::span_of` meets its contract: the span goes from the least number to the greatest.
use Rattle.levels.proofs.Sections.{Ends, span_low, span_up, span_long, span_all}
use Rattle.levels.proofs.span_of.Goals as goal
use Rattle.levels.proofs.span_of.Goals.{After-greatest_number-high}

ends : (x : After-greatest_number-high) → Ends x.args.a.now x.args.b.now x.least_number.result x.least_number-low.result x.greatest_number.result
    x.greatest_number-high.result
ends x =
    record {
      least_a = x.least_number.ensures;
      least_b = x.least_number-low.ensures;
      greatest_a = x.greatest_number.ensures;
      greatest_b = x.greatest_number-high.ensures;
    }

pub overflow_sub-result : goal.overflow_sub-result
overflow_sub-result c = span_up (ends (goal.at.overflow_sub-result c).After-greatest_number-high)

pub invariant_of-result : goal.invariant_of-result
invariant_of-result c =
    let e = ends (goal.at.invariant_of-result c).After-greatest_number-high in
    record { low_bound = span_low e; words_bound = span_long e c.requires.0 c.requires.1 }

pub returns : goal.returns
returns c = span_all (ends (goal.at.returns c).After-greatest_number-high)
