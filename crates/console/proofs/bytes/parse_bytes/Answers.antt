use Rattle.std.proofs.Common.{[], ◌∷◌, sym, refl, ◌∙◌}
use Rattle.std.proofs.lemmas.Slice.{pushed}
use Rattle.console.proofs.BytesRead.{read_more}
use Rattle.console.proofs.bytes.parse_bytes.Goals as goal

pub loop-rest-preserved : goal.loop-rest-preserved
loop-rest-preserved c =
    let b = c.in-Some.byte in
    read_more _ _ _ c.loop-rest.rest.now b c.loop-rest.invariant c.in-len2-up.len_at_least (sym c.is_blank.ensures ∙ c.if-is_blank.false) c.in-Some.ensures (pushed (b ∷ []) refl c.in_ok-push-in-len2-up.was c.push.ensures.items)
