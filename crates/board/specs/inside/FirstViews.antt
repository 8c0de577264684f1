-- The view with which a board begins.
use Rattle.std.specs.Prelude.{◌≡◌}
use Rattle.board.specs.declared.mode.Setting.{Setting}
use Rattle.board.specs.declared.view.View.{View}
use Rattle.board.specs.calls.Rule.{first_view}
use Rattle.board.specs.calls.Seats.{Frame}

-- the view with which a board begins
abbrev pub IsFirstView : Frame → View → Type 0
IsFirstView board v = (setting : Setting) × setting.plan.value ≡ board.plan × setting.mode ≡ board.mode × v ≡ first_view setting
