use Rattle.std.proofs.Common.{◌≡◌, ◌-◌, ◌++◌, min, length, take, drop, replicate, ap, ◌∙◌, arith}
use Rattle.std.proofs.lemmas.List.{drop-replicate, take_min}
use Rattle.update.specs.Putting.{padded}
use Rattle.update.proofs.padded.padded.Goals as goal

pub returns : goal.returns
unfolding padded
returns g c =
    let xs = c.args.bytes.now in
    let n = c.min-n.result in
    let fewer : n ≡ min g.row.N (length xs) = omega (arith, c.min-n.ensures) in
    let left : g.row.N - n ≡ g.row.N - length xs = omega (arith, c.min-n.ensures) in
    let front : c.copy_from_slice.new.self ≡ take g.row.N xs = c.copy_from_slice.ensures.after ∙ ap (λ k. take k xs) fewer ∙ take_min g.row.N xs in
    let zeros : drop n (replicate g.row.N 0) ≡ replicate (g.row.N - length xs) 0 = drop-replicate n g.row.N 0 ∙ ap (λ k. replicate k 0) left in
    λ j. front j ++ zeros j
