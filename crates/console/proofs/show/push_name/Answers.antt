use Rattle.std.proofs.Common.{ℕ, ◌-◌, ◌++◌, get_or, take, drop, vec_items, ap, ◌∙◌, append_assoc, arith, w8, Fits, rules}
use Rattle.console.specs.Shown.{shown_chars, shown_first, from_first, shown_name}
use Rattle.console.proofs.Printing.{made_same, first_and_others}
use Rattle.console.proofs.ReadBack.{name_read_back}
use Rattle.console.proofs.show.push_name.Goals as goal

pub returns-in_err-push_first : goal.returns-in_err-push_first
returns-in_err-push_first c =
    let x = c.args.name.now.bytes in
    let small : (k : ℕ) → Fits w8 (get_or x k 0) = λ k. search rules in
    record { text = search rules; back = name_read_back x (omega arith) (λ k. (small k).fits) }

pub returns : goal.returns
unfolding shown_name
returns c =
    let x = c.args.name.now.bytes in
    let n = c.shown_len-end.result in
    let small : (k : ℕ) → Fits w8 (get_or x k 0) = λ k. search rules in
    let others = shown_chars (take (n - 1) (drop 1 x)) in
    let same = ap (λ l. l ++ others) c.in_ok-push_first.ensures ∙ append_assoc _ (shown_first (get_or x 0 0)) others
    ∙ ap (λ l. vec_items c.args.out.now ++ l) (first_and_others x n c.shown_len-end.ensures.some (omega arith) ∙ ap (λ m. from_first (take m x)) c.shown_len-end.ensures.value) in
    record { text = made_same c.push_chars.result _ _ _ same c.push_chars.ensures; back = name_read_back x (omega arith) (λ k. (small k).fits) }
