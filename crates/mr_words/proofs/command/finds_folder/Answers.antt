use Rattle.std.proofs.Common.{◌≡◌, ◌∙◌, ℕ, List, [], ◌∷◌, ap, map, codes}
use Rattle.clap.specs.Words.{App, first_of, found_of, is_simple, matches_of, takes}
use Rattle.clap.proofs.WalkLemmas.{first_value-rows}
use Rattle.mr_words.specs.Command.{app}
use Rattle.mr_words.proofs.Words.{simple_app, folder_taken, folder_found, is_there}
use Rattle.mr_words.proofs.command.finds_folder.Goals as goal

pub returns-in-Ok-clause-found : goal.returns-in-Ok-clause-found
returns-in-Ok-clause-found c =
    let word = c.args.word.now in
    let words = map (λ s. s.now) c.as_slice.result.now in
    let there : words ≡ codes "--" ∷ word ∷ [] = ap (map (λ s. s.now)) c.as_slice.ensures in
    c.is_some.ensures ∙ is_there (λ s. s.now) c.get_str.result word
    (c.get_str.ensures ∙ first_value-rows (found_of c.in-Ok.matches) (codes "folder")
    ∙ ap (first_of (codes "folder")) ((c.in-Ok.ensures.matches (ap is_simple c.in_ok-command.ensures ∙ simple_app)).0 ∙ ap (λ (a : App). matches_of a words) c.in_ok-command.ensures)
    ∙ ap (λ (ws : List (List ℕ)). first_of (codes "folder") (matches_of app ws)) there
    ∙ folder_found word)

pub returns-in-Err-clause-memory : goal.returns-in-Err-clause-memory
returns-in-Err-clause-memory c =
    let word = c.args.word.now in
    let words = map (λ s. s.now) c.as_slice.result.now in
    let there : words ≡ codes "--" ∷ word ∷ [] = ap (map (λ s. s.now)) c.as_slice.ensures in
    c.in-Err.ensures.passes (ap (λ (a : App). takes a words) c.in_ok-command.ensures ∙ ap (takes app) there ∙ folder_taken word)
