-- What each answer says, and how a definition chooses: document 01, 'Answer numbers'.
pub mod Choice
pub mod Numbers
pub mod Places
