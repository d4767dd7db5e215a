-- Earlier views that are kept: the list itself, and one change after another.
use Rattle.std.proofs.Common.{List, [], ◌++◌, refl, sym, ◌∙◌}
use Rattle.std.proofs.lemmas.List.{append-nil, append_assoc}
use Rattle.np_bdd.specs.declared.views.View.{View}
use Rattle.np_bdd.specs.Diagram.{KeepsViews}
use Rattle.np_bdd.specs.Nodes.{KeepsNodes}

keeps_views_itself : (views : List View) → KeepsViews views views
keeps_views_itself views = record { more = []; appended = sym (append-nil views) }

pub keeps_nodes_itself : (views : List View) → KeepsNodes views views
keeps_nodes_itself views = record {
  views = keeps_views_itself views;
  there = λ x h. h;
  bit = λ x h. refl;
  same = λ x h bits. refl;
}

keeps_views_chained : (first next last : List View) → KeepsViews first next → KeepsViews next last → KeepsViews first last
keeps_views_chained first next last a b = record {
  more = a.more ++ b.more;
  appended = b.appended ∙ rw a.appended (append_assoc first a.more b.more);
}

pub keeps_nodes_chained : (first next last : List View) → KeepsNodes first next → KeepsNodes next last → KeepsNodes first last
keeps_nodes_chained first next last a b = record {
  views = keeps_views_chained first next last a.views b.views;
  there = λ x h. b.there x (a.there x h);
  bit = λ x h. b.bit x (a.there x h) ∙ a.bit x h;
  same = λ x h bits. b.same x (a.there x h) bits ∙ a.same x h bits;
}
