use Rattle.std.proofs.Common.{◌≡◌, ℕ, ◌-◌, ◌*◌, true, false, List, [], ◌++◌, take, replicate, vec_items, sym, ap, ◌∙◌, arith}
use Rattle.std.proofs.lemmas.Bool.{cond-true, cond-false}
use Rattle.std.proofs.lemmas.Bool.Decides.{nat_tests}
use Rattle.layout.proofs.Slices.{take_nil}
use Rattle.session.specs.Obeyed.{size_fits, new_disk}
use Rattle.session.proofs.Asking.{made_anyway}
use Rattle.session.proofs.session.Session.make_disk.Goals as goal

pub returns-then-not-contains-clause-disk : goal.returns-then-not-contains-clause-disk
unfolding new_disk
returns-then-not-contains-clause-disk c =
    let unfit : size_fits c.args.blocks ≡ false = grind (arith, nat_tests) in
    made_anyway c.refuse.result (sym (cond-false (size_fits c.args.blocks) _ _ unfit))

-- nothing, grown to n blocks of zeros
grown : (xs : List ℕ) (len n : ℕ) → xs ≡ [] → len ≡ 0 → take (n * 64) xs ++ replicate (n * 64 - len) 0 ≡ replicate (64 * n) 0
grown xs len n none empty =
    let many : n * 64 - len ≡ 64 * n = omega arith in
    (λ j. (ap (take (n * 64)) none ∙ take_nil (n * 64)) j ++ replicate (many j) 0)

pub returns-clause-disk : goal.returns-clause-disk
unfolding new_disk
returns-clause-disk c =
    let n = c.args.blocks in
    let fit : size_fits n ≡ true = grind (arith, nat_tests) in
    c.in_ok-resize.ensures.items ∙ grown (vec_items c.clear.new.self) _ n c.clear.ensures.items c.clear.ensures.len ∙ sym (cond-true (size_fits n) _ _ fit)
