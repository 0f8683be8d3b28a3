use Rattle.bmx_segment.proofs.Starts.{window-low, window-high}
use Rattle.bmx_segment.proofs.segment.joined.Goals as goal

pub returns-clause-low : goal.returns-clause-low
returns-clause-low c = λ j within. window-low c.args.low c.args.high c.args.bit j c.requires.few c.ranges.low.fits within

pub returns-clause-high : goal.returns-clause-high
returns-clause-high c = λ j less beyond. window-high c.args.low c.args.high c.args.bit j c.requires.few c.ranges.low.fits less beyond
