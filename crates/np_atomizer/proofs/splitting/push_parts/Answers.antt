use Rattle.std.proofs.Common.{[], ◌∷◌, ◌++◌, sym, ◌∙◌, ap, append_assoc}
use Rattle.std.proofs.lemmas.Bool.{true≢false}
use Rattle.np_atomizer.proofs.SplitLaws.{no_outside, two_parts}
use Rattle.np_atomizer.proofs.splitting.push_parts.Goals as goal

pub returns-then-is_empty-2-clause-parts : goal.returns-then-is_empty-2-clause-parts
returns-then-is_empty-2-clause-parts g c =
    record {
      more = c.args.region ∷ [];
      is = c.in_ok-push-2.ensures.items;
      parts = no_outside g.S.Regions.fits g.S.Regions.has_header c.args.store.now c.meet.new.self c.minus.new.self c.args.cut.now c.args.region c.in_ok-outside.outside c.meet.ensures.kept c.minus.ensures.kept c.requires.region c.requires.cut c.in_ok-outside.ensures.exact (c.is_empty-2.ensures.0 c.if-is_empty-2.true);
    }

pub returns-clause-parts : goal.returns-clause-parts
returns-clause-parts g c =
    record {
      more = (c.in_ok-inside.inside ∷ []) ++ c.in_ok-outside.outside ∷ [];
      is =
          c.in_ok-push-4.ensures.items
          ∙ ap (λ l. l ++ c.in_ok-outside.outside ∷ []) c.in_ok-push-3.ensures.items
          ∙ append_assoc c.args.parts.now.items (c.in_ok-inside.inside ∷ []) (c.in_ok-outside.outside ∷ []);
      parts =
          two_parts g.S.Regions.fits g.S.Regions.has_header c.args.store.now c.meet.new.self c.minus.new.self c.args.cut.now c.args.region c.in_ok-inside.inside c.in_ok-outside.outside c.meet.ensures.kept c.minus.ensures.kept c.requires.region c.requires.cut c.in_ok-inside.ensures.fits c.in_ok-inside.ensures.exact
          (λ none. true≢false (sym (c.is_empty.ensures.1 none) ∙ c.if-is_empty.false))
          c.in_ok-outside.ensures.fits c.in_ok-outside.ensures.exact
          (λ none. true≢false (sym (c.is_empty-2.ensures.1 none) ∙ c.if-is_empty-2.false));
    }
