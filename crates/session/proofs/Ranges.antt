-- Runs of places, listed one behind the other. Assumes nothing.
use Rattle.std.proofs.Common.{◌≡◌, ℕ, ◌-◌, ◌≤◌, Bool, false, List, [], ◌∷◌, ◌++◌, sym, ap, ◌∙◌, subst, append_assoc, append-nil}
use Rattle.std.specs.declared.ops.Range.{Range}
use Rattle.unread.specs.Runs.{NextRun, Listed}
use Rattle.console.specs.Shown.{shown_number}
use Rattle.session.specs.Printed.{pair_line, shown_ranges}
use Rattle.session.proofs.Texts.{behind}

-- the line of a range
abbrev pub range_line : Range ℕ → List ℕ
range_line r = pair_line (shown_number r.start) (shown_number (r.end - 1))

shown_ranges_push : (rs : List (Range ℕ)) (r : Range ℕ) → shown_ranges rs ++ range_line r ≡ shown_ranges (rs ++ (r ∷ []))
unfolding shown_ranges
shown_ranges_push [] r = sym (append-nil (range_line r))
shown_ranges_push (q ∷ rs) r = append_assoc (range_line q) (shown_ranges rs) (range_line r) ∙ ap (λ l. range_line q ++ l) (shown_ranges_push rs r)

-- these ranges are shown, and those from `at` on go on behind them
pub record ListedTo (p : ℕ → Bool) (before out : List ℕ) (at : ℕ) : Type 0 where
  pub ranges : List (Range ℕ)
  pub text : out ≡ before ++ shown_ranges ranges
  pub rest : (rs : List (Range ℕ)) → Listed p at rs → Listed p 0 (ranges ++ rs)

module _ (p : ℕ → Bool) (before : List ℕ) where
  pub listed_none : ListedTo p before before 0
  unfolding shown_ranges
  listed_none = record { ranges = []; text = sym (append-nil before); rest = λ rs listed. listed }

  module _ (out : List ℕ) (at : ℕ) (so_far : ListedTo p before out at) where
    pub listed_more : (r : Range ℕ) (now : List ℕ) → NextRun p at r → now ≡ out ++ range_line r → ListedTo p before now r.end
    listed_more r now next is =
        let rs = so_far.ranges in
        record {
          ranges = rs ++ (r ∷ []);
          text = is ∙ behind before (shown_ranges rs) (range_line r) so_far.text ∙ ap (λ l. before ++ l) (shown_ranges_push rs r);
          rest = λ more listed. subst (Listed p 0) (sym (append_assoc rs (r ∷ []) more)) (so_far.rest (r ∷ more) (next, listed));
        }

    pub listed_all : ((k : ℕ) → at ≤ k → p k ≡ false) → (rs : List (Range ℕ)) × Listed p 0 rs × (out ≡ before ++ shown_ranges rs)
    listed_all none = (so_far.ranges, subst (Listed p 0) (append-nil so_far.ranges) (so_far.rest [] none), so_far.text)
