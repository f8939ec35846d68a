-- Document 01, "The page": the ledger is the editor's, whatever the layout.
pub use Rattle.editor.specs.Ledger.{Step, Ledger, opened, Call, replace, undo, redo, save, squeeze, fed, text_of, done_by}
pub use Rattle.editor.specs.Ledger.{unchanged_by}
unfoldable pub use Rattle.editor.specs.Ledger.{accepted_call, text_after}
